use Rattle.std.proofs.Common.{arith}
use Rattle.mldsa_hints.proofs.PlacesOut.{counts_next, counts_last}
use Rattle.mldsa_hints.proofs.hint_count.Goals as goal

pub loop-i-preserved : goal.loop-i-preserved
loop-i-preserved c = (counts_next c.args.hs.now c.loop-i.i c.loop-i.n c.row_count-n.result _ (omega arith) c.row_count-n.ensures.count c.loop-i.invariant.0, omega arith)

pub returns : goal.returns
returns c = counts_last c.args.hs.now c.loop-i.i c.loop-i.n _ (omega arith) c.loop-i.invariant.0
