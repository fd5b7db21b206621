use Rattle.std.proofs.Common.{◌+◌, ◌*◌, ◌∙◌, arith, lit<}
use Rattle.algebra.proofs.Words.{filled_below, filled_pair, filled_all}
use Rattle.algebra.proofs.Numbers.{table_below}
use Rattle.algebra.proofs.BaseCase.{pair_rest, pairs_below}
use Rattle.ring.proofs.kem.multiply_ntts.Goals as goal

pub multiply_pair-low-requires : goal.multiply_pair-low-requires
multiply_pair-low-requires c =
    let first = filled_below 3329 _ c.args.f.now (2 * c.loop-i.i) c.loop-i.f (lit< tt) c.requires.first c.loop-i.invariant in
    record { place = c.loop-i-test.true; first = (first (2 * c.loop-i.i) (omega arith), first (2 * c.loop-i.i + 1) (omega arith)); second = c.requires.second }

pub loop-i-preserved : goal.loop-i-preserved
loop-i-preserved c =
    let rest = pair_rest c.args.f.now c.loop-i.f c.args.g.now c.loop-i.i c.loop-i.invariant in
    filled_pair _ c.args.f.now c.loop-i.i c.loop-i.f _ _ c.loop-i-test.true (c.multiply_pair-low.ensures.low ∙ rest (2 * c.loop-i.i) (omega arith))
    (c.multiply_pair-low.ensures.high ∙ rest (2 * c.loop-i.i + 1) (omega arith)) c.loop-i.invariant

pub returns : goal.returns
returns c =
    let e = filled_all _ c.args.f.now c.loop-i.f (2 * c.loop-i.i) (omega arith) c.loop-i.invariant in
    record { value = e; below = table_below 3329 _ _ (pairs_below c.args.f.now c.args.g.now) e }
