use Rattle.std.proofs.Common.{◌≡◌, map}
use Rattle.algebra.specs.Layers.{inverse_layers}
use Rattle.ring.proofs.transform.inverse.Given as goal

abbrev pub invariant-loop-l : goal.invariant-loop-l
invariant-loop-l g l =
    let v = g.F.Word.value in
    map v l.f ≡ inverse_layers g.F.Modular.q (map v l.zetas) l.layers l.l (map v l.initial.f)
