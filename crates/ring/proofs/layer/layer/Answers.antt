use Rattle.std.proofs.Common.{◌/◌, ◌^◌, map, sym, ap, ◌∙◌, subst, arith}
use Rattle.std.proofs.lemmas.List.{length-map}
use Rattle.standards.specs.Lists.{at}
use Rattle.standards.specs.Ring.{Poly}
use Rattle.algebra.proofs.Blocks.{layer_to_none, layer_to_more, layer_to_poly, block_fits, layer_shape}
use Rattle.algebra.proofs.Words.{read_is, read_below}
use Rattle.ring.proofs.layer.layer.Goals as goal

pub loop-b-init : goal.loop-b-init
loop-b-init g c = layer_to_none _ _ _ _ _

pub offset_bounds-zetas-place : goal.offset_bounds-zetas-place
offset_bounds-zetas-place g c = omega (arith, (layer_shape c.args.l c.requires.few).blocks, length-map c.args.zetas.now g.F.Word.value)

pub bounds-zetas-place : goal.bounds-zetas-place
bounds-zetas-place g c = omega (arith, (layer_shape c.args.l c.requires.few).blocks, length-map c.args.zetas.now g.F.Word.value)

pub block-requires : goal.block-requires
block-requires g c =
    let v = g.F.Word.value in
    let q = g.F.Modular.q in
    let s = layer_shape c.args.l c.requires.few in (
      omega arith,
      (
        block_fits (128 / 2 ^ c.args.l) (2 ^ c.args.l) c.loop-b.b s.whole (omega (arith, s.blocks)),
        (
          read_below v q g.met.F.Modular.positive c.args.zetas.now c.requires.factors.1 _ c.index-zetas-place.result c.index-zetas-place.is (omega (arith, s.blocks, length-map c.args.zetas.now v)),
          subst (Poly q) (sym c.loop-b.invariant)
              (layer_to_poly q g.met.F.Modular.positive _ _ (λ z x y. g.met.B.Butterfly.low_below q z x y g.met.F.Modular.positive) (λ z x y. g.met.B.Butterfly.high_below q z x y g.met.F.Modular.positive)
              _ _ c.loop-b.b (map v c.args.f.now) c.requires.poly),
        ),
      ),
    )

pub loop-b-preserved : goal.loop-b-preserved
loop-b-preserved g c =
    let v = g.F.Word.value in
    let s = layer_shape c.args.l c.requires.few in
    layer_to_more _ _ _ _ c.loop-b.b _ _ _ _
    (read_is v c.args.zetas.now _ c.index-zetas-place.result c.index-zetas-place.is (omega (arith, s.blocks, length-map c.args.zetas.now v)) ∙ (ap (at (map v c.args.zetas.now)) c.place.ensures.value ∙ ap (λ x. at (map v c.args.zetas.now) (g.B.Butterfly.place x c.loop-b.b)) s.blocks))
    c.loop-b.invariant c.block.ensures
