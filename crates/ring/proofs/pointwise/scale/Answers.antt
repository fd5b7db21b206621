use Rattle.std.proofs.Common.{ap, ◌∙◌, arith}
use Rattle.algebra.specs.Modular.{mul_m}
use Rattle.algebra.proofs.Words.{rest_below, rest_is, filled_more, filled_all}
use Rattle.ring.proofs.pointwise.scale.Goals as goal

pub mul_mod-requires : goal.mul_mod-requires
mul_mod-requires g c =
    (c.requires.factor, rest_below g.F.Word.value _ c.args.f.now c.loop-i.f c.loop-i.i c.loop-i.invariant c.loop-i-test.true _ g.met.F.Modular.positive c.requires.poly _)

pub loop-i-preserved : goal.loop-i-preserved
loop-i-preserved g c =
    filled_more g.F.Word.value _ _ c.loop-i.i c.loop-i.f c.mul_mod.result c.loop-i-test.true
    (c.mul_mod.ensures ∙ ap (mul_m g.F.Modular.q (g.F.Word.value c.args.c)) (rest_is g.F.Word.value _ c.args.f.now c.loop-i.f c.loop-i.i c.loop-i.invariant c.loop-i-test.true _)) c.loop-i.invariant

pub returns : goal.returns
returns g c = filled_all _ _ _ c.loop-i.i (omega arith) c.loop-i.invariant
