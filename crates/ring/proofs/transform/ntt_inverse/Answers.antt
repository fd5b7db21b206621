use Rattle.std.proofs.Common.{sym, ◌∙◌, mod-lt, arith}
use Rattle.algebra.proofs.Numbers.{table_below, row_poly, row_factors, inverse_poly, row_inverse}
use Rattle.ring.proofs.transform.ntt_inverse.Goals as goal

pub inverse-requires : goal.inverse-requires
inverse-requires g c =
    let m = g.F.Word in
    let poly = row_poly m.value m.numbers g.met.F.Word.numbers_are g.F.Modular.q c.args.f.now c.told-f c.requires in
    (omega arith, (rw c.LAYERS.ensures g.met.F.Transform.few, (row_factors m.value m.numbers g.met.F.Word.numbers_are g.F.Modular.q _ _ _ c.zetas.result.now c.args.f.now c.zetas.ensures c.LAYERS.ensures g.met.F.Modular.positive poly, poly)))

pub scale-requires : goal.scale-requires
scale-requires g c =
    let m = g.F.Word in
    let are = g.met.F.Word.numbers_are in
    let pos = g.met.F.Modular.positive in
    let poly = row_poly m.value m.numbers are g.F.Modular.q c.args.f.now c.told-f c.requires in
    (omega arith, (rw c.last_factor.ensures g.met.F.Transform.last_below, inverse_poly m.value m.numbers are g.F.Modular.q _ _ _ c.zetas.result.now c.args.f.now c.zetas.ensures c.LAYERS.ensures pos poly _ c.inverse.ensures))

pub returns : goal.returns
returns g c =
    let m = g.F.Word in
    let are = g.met.F.Word.numbers_are in
    let pos = g.met.F.Modular.positive in
    let poly = row_poly m.value m.numbers are g.F.Modular.q c.args.f.now c.told-f c.requires in
    let e = row_inverse m.value m.numbers are g.F.Modular.q _ _ _ c.zetas.result.now c.args.f.now c.zetas.ensures c.LAYERS.ensures pos poly _ _ c.last_factor.ensures _ _ c.inverse.ensures c.scale.ensures in
    record { value = e ∙ sym (g.met.F.Transform.inverse _); below = table_below g.F.Modular.q _ _ (λ k. mod-lt _ pos) e }
