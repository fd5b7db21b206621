use Rattle.std.proofs.Common.{◌≡◌, ◌+◌, ◌*◌, ◌≤◌, length, drop}
use Rattle.standards.specs.MlDsaParts.{all_places}
use Rattle.mldsa_hints.proofs.hint_count.Given as goal

abbrev pub invariant-loop-i : goal.invariant-loop-i
invariant-loop-i l = (l.n + length (all_places (drop l.i l.hs)) ≡ length (all_places l.hs)) × (l.n ≤ 256 * l.i)
