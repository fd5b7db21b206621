use Rattle.std.proofs.Common.{◌≡◌, ◌+◌, ◌≤◌, length, drop}
use Rattle.standards.specs.MlDsaParts.{places}
use Rattle.mldsa_hints.proofs.row_count.Given as goal

abbrev pub invariant-loop-i : goal.invariant-loop-i
invariant-loop-i l = (l.n + length (places l.i (drop l.i l.row)) ≡ length (places 0 l.row)) × (l.n ≤ l.i)
