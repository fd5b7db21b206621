use Rattle.std.proofs.Common.{◌+◌, ◌*◌, ◌%◌, sym, ◌∙◌, ap₂, mod-lt, arith, lit<}
use Rattle.standards.specs.MlKemParts.{multiply_ntts_at}
use Rattle.algebra.proofs.Tables.{at_table, at_small}
use Rattle.algebra.proofs.Words.{filled_below, filled_pair, filled_all}
use Rattle.algebra.proofs.Numbers.{table_below}
use Rattle.algebra.proofs.BaseCase.{pairs_below}
use Rattle.ring.proofs.kem.multiply_add.Goals as goal

pub multiply_pair-low-requires : goal.multiply_pair-low-requires
multiply_pair-low-requires c =
    let first = at_small 3329 c.args.f.now (lit< tt) c.requires.first in
    record { place = c.loop-i-test.true; first = (first (2 * c.loop-i.i), first (2 * c.loop-i.i + 1)); second = c.requires.second }

pub add_mod-low-requires : goal.add_mod-low-requires
add_mod-low-requires c = (
  rw c.multiply_pair-low.ensures.low (pairs_below c.args.f.now c.args.g.now (2 * c.loop-i.i)),
  filled_below 3329 _ c.args.out.now (2 * c.loop-i.i) c.loop-i.out (lit< tt) c.requires.sum c.loop-i.invariant (2 * c.loop-i.i) (omega arith),
)

pub add_mod-high-requires : goal.add_mod-high-requires
add_mod-high-requires c = (
  rw c.multiply_pair-low.ensures.high (pairs_below c.args.f.now c.args.g.now (2 * c.loop-i.i + 1)),
  filled_below 3329 _ c.args.out.now (2 * c.loop-i.i) c.loop-i.out (lit< tt) c.requires.sum c.loop-i.invariant (2 * c.loop-i.i + 1) (omega arith),
)

pub loop-i-preserved : goal.loop-i-preserved
loop-i-preserved c =
    let product = at_table 256 (multiply_ntts_at c.args.f.now c.args.g.now) in
    filled_pair _ c.args.out.now c.loop-i.i c.loop-i.out _ _ c.loop-i-test.true
    (c.add_mod-low.ensures ∙ ap₂ (λ x y. (x + y) % 3329) (c.multiply_pair-low.ensures.low ∙ sym (product (2 * c.loop-i.i) (omega arith))) (c.loop-i.invariant.rest (2 * c.loop-i.i) (omega arith)))
    (c.add_mod-high.ensures ∙ ap₂ (λ x y. (x + y) % 3329) (c.multiply_pair-low.ensures.high ∙ sym (product (2 * c.loop-i.i + 1) (omega arith))) (c.loop-i.invariant.rest (2 * c.loop-i.i + 1) (omega arith)))
    c.loop-i.invariant

pub returns : goal.returns
returns c =
    let e = filled_all _ c.args.out.now c.loop-i.out (2 * c.loop-i.i) (omega arith) c.loop-i.invariant in
    record { value = e; below = table_below 3329 _ _ (λ k. mod-lt _ (lit< tt)) e }
