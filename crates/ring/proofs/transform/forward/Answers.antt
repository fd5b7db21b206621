use Rattle.std.proofs.Common.{map, sym, subst, arith}
use Rattle.standards.specs.Ring.{Poly}
use Rattle.algebra.proofs.Blocks.{forward_layers_none, forward_layers_more, forward_layers_poly, fewer_factors}
use Rattle.ring.proofs.transform.forward.Goals as goal

pub loop-l-init : goal.loop-l-init
loop-l-init g c = forward_layers_none _ _ _

pub layer-requires : goal.layer-requires
layer-requires g c =
    let v = g.F.Word.value in
    let q = g.F.Modular.q in (
      omega arith,
      (
        omega arith,
        (
          fewer_factors q c.args.layers c.loop-l.l (map v c.args.zetas.now) (omega arith) c.requires.factors,
          subst (Poly q) (sym c.loop-l.invariant) (forward_layers_poly q g.met.F.Modular.positive (map v c.args.zetas.now) c.loop-l.l (map v c.args.f.now) c.requires.poly),
        ),
      ),
    )

pub loop-l-preserved : goal.loop-l-preserved
loop-l-preserved g c = forward_layers_more _ (map g.F.Word.value c.args.zetas.now) c.loop-l.l _ _ _ c.loop-l.invariant c.layer.ensures
