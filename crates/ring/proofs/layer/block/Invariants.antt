use Rattle.std.proofs.Common.{◌≡◌, map}
use Rattle.algebra.specs.Layers.{block_to}
use Rattle.ring.proofs.layer.block.Given as goal

abbrev pub invariant-loop-d : goal.invariant-loop-d
invariant-loop-d g l =
    let q = g.F.Modular.q in
    let v = g.F.Word.value in
    map v l.f ≡ block_to (g.B.Butterfly.low q (v l.z)) (g.B.Butterfly.high q (v l.z)) l.start l.len l.d (map v l.initial.f)
