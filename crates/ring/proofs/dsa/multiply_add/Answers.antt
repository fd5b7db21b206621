use Rattle.std.proofs.Common.{◌+◌, ◌%◌, sym, ◌∙◌, ap₂, mod-lt, arith, lit<}
use Rattle.algebra.proofs.Tables.{at_table, at_small}
use Rattle.algebra.proofs.Words.{filled_below, filled_set, filled_all}
use Rattle.algebra.proofs.Numbers.{table_below}
use Rattle.ring.proofs.dsa.multiply_add.Goals as goal

pub mul_mod-requires : goal.mul_mod-requires
mul_mod-requires c = (at_small 8380417 c.args.f.now (lit< tt) c.requires.first c.loop-i.i, at_small 8380417 c.args.g.now (lit< tt) c.requires.second c.loop-i.i)

pub add_mod-requires : goal.add_mod-requires
add_mod-requires c = (
  rw c.mul_mod.ensures (mod-lt _ (lit< tt)),
  filled_below 8380417 _ c.args.out.now c.loop-i.i c.loop-i.out (lit< tt) c.requires.sum c.loop-i.invariant c.loop-i.i (omega arith),
)

pub loop-i-preserved : goal.loop-i-preserved
loop-i-preserved c =
    filled_set _ c.args.out.now c.loop-i.i c.loop-i.out _ c.loop-i-test.true
    (c.add_mod.ensures ∙ ap₂ (λ x y. (x + y) % 8380417) (c.mul_mod.ensures ∙ sym (at_table 256 _ c.loop-i.i c.loop-i-test.true)) (c.loop-i.invariant.rest c.loop-i.i (omega arith))) c.loop-i.invariant

pub returns : goal.returns
returns c =
    let e = filled_all _ c.args.out.now c.loop-i.out c.loop-i.i (omega arith) c.loop-i.invariant in
    record { value = e; below = table_below 8380417 _ _ (λ k. mod-lt _ (lit< tt)) e }
