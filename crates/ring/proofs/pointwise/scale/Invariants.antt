use Rattle.std.proofs.Common.{map}
use Rattle.standards.specs.Lists.{at}
use Rattle.algebra.specs.Modular.{mul_m}
use Rattle.algebra.proofs.Words.{Filled}
use Rattle.ring.proofs.pointwise.scale.Given as goal

abbrev pub invariant-loop-i : goal.invariant-loop-i
invariant-loop-i g l =
    let v = g.F.Word.value in
    Filled (λ k. mul_m g.F.Modular.q (v l.c) (at (map v l.initial.f) k)) (map v l.initial.f) l.i (map v l.f)
