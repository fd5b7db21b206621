use Rattle.std.proofs.Common.{◌*◌, map}
use Rattle.algebra.proofs.Parts.{Written}
use Rattle.packing.proofs.coefficients.set_eight.Given as goal

abbrev pub invariant-loop-i : goal.invariant-loop-i
invariant-loop-i g l = Written (map g.W.Word.value l.initial.f) l.x (8 * l.g) l.i (map g.W.Word.value l.f)
