use Rattle.std.proofs.Common.{◌≡◌, ◌≤◌, ◌++◌, length, take, drop}
use Rattle.standards.specs.MlDsaParts.{places}
use Rattle.mldsa_hints.proofs.pack_row.Given as goal

abbrev pub invariant-loop-i : goal.invariant-loop-i
invariant-loop-i l = record {
  within : l.n ≤ length l.out;
  behind : drop l.n l.out ≡ drop l.n l.initial.out;
  written : take l.n l.out ++ places l.i (drop l.i l.row) ≡ places 0 l.row;
}
