use Rattle.std.proofs.Common.{sym, ◌∙◌, arith}
use Rattle.algebra.proofs.Numbers.{row_poly, row_factors, numbers_poly, row_forward, forward_below}
use Rattle.ring.proofs.transform.ntt.Goals as goal

pub forward-requires : goal.forward-requires
forward-requires g c =
    let m = g.F.Word in
    let poly = row_poly m.value m.numbers g.met.F.Word.numbers_are g.F.Modular.q c.args.f.now c.told-f c.requires in
    (omega arith, (rw c.LAYERS.ensures g.met.F.Transform.few, (row_factors m.value m.numbers g.met.F.Word.numbers_are g.F.Modular.q _ _ _ c.zetas.result.now c.args.f.now c.zetas.ensures c.LAYERS.ensures g.met.F.Modular.positive poly, poly)))

pub returns : goal.returns
returns g c =
    let m = g.F.Word in
    let are = g.met.F.Word.numbers_are in
    let pos = g.met.F.Modular.positive in
    let poly = row_poly m.value m.numbers are g.F.Modular.q c.args.f.now c.told-f c.requires in
    record {
      value = row_forward m.value m.numbers are g.F.Modular.q _ _ _ c.zetas.result.now c.args.f.now c.zetas.ensures c.LAYERS.ensures pos poly _ c.forward.ensures ∙
          sym (g.met.F.Transform.forward _ (numbers_poly m.value m.numbers are g.F.Modular.q _ _ _ c.zetas.result.now c.args.f.now c.zetas.ensures c.LAYERS.ensures pos poly));
      below = forward_below m.value m.numbers are g.F.Modular.q _ _ _ c.zetas.result.now c.args.f.now c.zetas.ensures c.LAYERS.ensures pos poly _ c.forward.ensures;
    }
