use Rattle.std.proofs.Common.{◌≡◌, map}
use Rattle.algebra.specs.Layers.{forward_layers}
use Rattle.ring.proofs.transform.forward.Given as goal

abbrev pub invariant-loop-l : goal.invariant-loop-l
invariant-loop-l g l =
    let v = g.F.Word.value in
    map v l.f ≡ forward_layers g.F.Modular.q (map v l.zetas) l.l (map v l.initial.f)
