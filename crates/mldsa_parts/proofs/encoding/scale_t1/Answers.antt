use Rattle.std.proofs.Common.{arith, lit<}
use Rattle.algebra.proofs.Tables.{at_small}
use Rattle.algebra.proofs.Words.{filled_set}
use Rattle.mldsa_parts.proofs.Numbers.{filled_mod}
use Rattle.mldsa_parts.proofs.encoding.scale_t1.Goals as goal

pub loop-i-preserved : goal.loop-i-preserved
loop-i-preserved c =
    let x = c.loop-i.invariant.rest c.loop-i.i (omega arith) in
    filled_set _ _ c.loop-i.i _ _ (omega arith) (omega (arith, x, at_small 1024 c.args.f.now (lit< tt) c.requires c.loop-i.i)) c.loop-i.invariant

pub returns-clause-below : goal.returns-clause-below
returns-clause-below c = filled_mod _ c.args.f.now c.loop-i.f c.loop-i.i (omega arith) c.loop-i.invariant
