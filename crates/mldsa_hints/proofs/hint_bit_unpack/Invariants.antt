use Rattle.std.proofs.Common.{◌≡◌, ◌≤◌, true, take}
use Rattle.standards.specs.Lists.{tables}
use Rattle.standards.specs.MlDsa.{hint_begin, hints_rise, hint_row}
use Rattle.sets.specs.Sets.{dsa_numbers}
use Rattle.mldsa_hints.proofs.hint_bit_unpack.Given as goal

abbrev pub invariant-loop-i : goal.invariant-loop-i
invariant-loop-i l =
    (l.begin ≤ l.p.omega) × (l.begin ≡ hint_begin (dsa_numbers l.p) l.sig l.i) × (hints_rise (dsa_numbers l.p) l.sig l.i ≡ true) ×
    (take l.i l.hs ≡ tables l.i (hint_row (dsa_numbers l.p) l.sig))
