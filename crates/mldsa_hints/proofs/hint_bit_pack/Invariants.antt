use Rattle.std.proofs.Common.{◌≡◌, ◌≤◌, ◌++◌, take, drop}
use Rattle.standards.specs.MlDsaParts.{all_places, row_ends}
use Rattle.mldsa_hints.proofs.hint_bit_pack.Given as goal

abbrev pub invariant-loop-i : goal.invariant-loop-i
invariant-loop-i l =
    (l.index ≤ l.omega) × (take l.index l.out ++ all_places (drop l.i l.hs) ≡ all_places l.hs) ×
    (take l.i (drop l.omega l.out) ++ row_ends l.index (drop l.i l.hs) ≡ row_ends 0 l.hs)
