use Rattle.std.proofs.Common.{◌≡◌, eqb, take}
use Rattle.standards.specs.Lists.{same}
use Rattle.select.proofs.differ.Given as goal

abbrev pub invariant-loop-i : goal.invariant-loop-i
invariant-loop-i l = eqb l.d 0 ≡ same (take l.i l.a) (take l.i l.b)
