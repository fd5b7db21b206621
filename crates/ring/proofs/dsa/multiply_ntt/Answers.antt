use Rattle.std.proofs.Common.{◌*◌, ◌%◌, ◌∙◌, ap, mod-lt, arith, lit<, get_or}
use Rattle.algebra.proofs.Tables.{at_small}
use Rattle.algebra.proofs.Words.{filled_below, filled_set, filled_all}
use Rattle.algebra.proofs.Numbers.{table_below}
use Rattle.ring.proofs.dsa.multiply_ntt.Goals as goal

pub mul_mod-requires : goal.mul_mod-requires
mul_mod-requires c = (
  filled_below 8380417 _ c.args.f.now c.loop-i.i c.loop-i.f (lit< tt) c.requires.first c.loop-i.invariant c.loop-i.i (omega arith),
  at_small 8380417 c.args.g.now (lit< tt) c.requires.second c.loop-i.i,
)

pub loop-i-preserved : goal.loop-i-preserved
loop-i-preserved c =
    filled_set _ c.args.f.now c.loop-i.i c.loop-i.f _ c.loop-i-test.true
    (c.mul_mod.ensures ∙ ap (λ x. (x * get_or c.args.g.now c.loop-i.i 0) % 8380417) (c.loop-i.invariant.rest c.loop-i.i (omega arith))) c.loop-i.invariant

pub returns : goal.returns
returns c =
    let e = filled_all _ c.args.f.now c.loop-i.f c.loop-i.i (omega arith) c.loop-i.invariant in
    record { value = e; below = table_below 8380417 _ _ (λ k. mod-lt _ (lit< tt)) e }
