use Rattle.std.proofs.Common.{◌≡◌, ◌/◌, ◌^◌, map}
use Rattle.standards.specs.Lists.{at}
use Rattle.algebra.specs.Layers.{layer_to}
use Rattle.ring.proofs.layer.layer.Given as goal

abbrev pub invariant-loop-b : goal.invariant-loop-b
invariant-loop-b g l =
    let q = g.F.Modular.q in
    let v = g.F.Word.value in
    map v l.f ≡ layer_to (g.B.Butterfly.low q) (g.B.Butterfly.high q) (λ m. at (map v l.zetas) (g.B.Butterfly.place (2 ^ l.l) m)) (128 / 2 ^ l.l) l.b (map v l.initial.f)
