use Rattle.std.proofs.Common.{mod-lt, arith}
use Rattle.standards.specs.Ring.{sub_p}
use Rattle.algebra.specs.Modular.{sub_m}
use Rattle.algebra.proofs.Words.{rest_below, other_below, each_more, filled_all}
use Rattle.algebra.proofs.Numbers.{table_below, row_poly, row_two}
use Rattle.ring.proofs.pointwise.sub.Goals as goal

pub sub_mod-requires : goal.sub_mod-requires
sub_mod-requires g c =
    let v = g.F.Word.value in
    let pos = g.met.F.Modular.positive in
    let poly = row_poly v g.F.Word.numbers g.met.F.Word.numbers_are g.F.Modular.q in (
      rest_below v _ c.args.f.now c.loop-i.f c.loop-i.i c.loop-i.invariant c.loop-i-test.true _ pos (poly c.args.f.now c.told-f c.requires.first) _,
      other_below v _ pos c.args.g.now (poly c.args.g.now c.told-g c.requires.second) c.loop-i.i c.loop-i-test.true _,
    )

pub loop-i-preserved : goal.loop-i-preserved
loop-i-preserved g c =
    let poly = row_poly g.F.Word.value g.F.Word.numbers g.met.F.Word.numbers_are g.F.Modular.q c.args.g.now c.told-g c.requires.second in
    each_more g.F.Word.value (sub_m g.F.Modular.q) c.args.f.now c.args.g.now c.loop-i.f c.loop-i.i _ _ c.sub_mod.result c.loop-i-test.true poly.0 c.sub_mod.ensures c.loop-i.invariant

pub returns : goal.returns
returns g c =
    let e = row_two g.F.Word.value g.F.Word.numbers g.met.F.Word.numbers_are g.F.Modular.q (sub_p g.F.Modular.q) c.args.f.now c.args.g.now c.loop-i.f (filled_all _ _ _ c.loop-i.i (omega arith) c.loop-i.invariant) in
    record { value = e; below = table_below g.F.Modular.q _ _ (λ k. mod-lt _ g.met.F.Modular.positive) e }
