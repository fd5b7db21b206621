use Rattle.std.proofs.Common.{map}
use Rattle.standards.specs.Lists.{at}
use Rattle.algebra.specs.Modular.{add_m}
use Rattle.algebra.proofs.Words.{Filled}
use Rattle.ring.proofs.pointwise.add.Given as goal

abbrev pub invariant-loop-i : goal.invariant-loop-i
invariant-loop-i g l =
    let v = g.F.Word.value in
    Filled (λ k. add_m g.F.Modular.q (at (map v l.initial.f) k) (at (map v l.g) k)) (map v l.initial.f) l.i (map v l.f)
