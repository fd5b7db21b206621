use Rattle.std.proofs.Common.{eqb, arith}
use Rattle.standards.specs.Lists.{at}
use Rattle.mldsa_hints.proofs.PlacesOut.{count_next, count_last, at_most_one}
use Rattle.mldsa_hints.proofs.row_count.Goals as goal

pub loop-i-preserved : goal.loop-i-preserved
loop-i-preserved c = (count_next c.args.row.now c.loop-i.i c.loop-i.n _ _ (omega arith) c.from-n.ensures c.loop-i.invariant.0, omega (arith, at_most_one (eqb (at c.args.row.now c.loop-i.i) 0)))

pub returns-clause-count : goal.returns-clause-count
returns-clause-count c = count_last c.args.row.now c.loop-i.i c.loop-i.n _ (omega arith) c.loop-i.invariant.0
