use Rattle.std.proofs.Common.{eqb, arith}
use Rattle.select.proofs.Differences.{chosen}
use Rattle.select.proofs.choose.Goals as goal

pub returns : goal.returns
returns c = chosen (eqb c.args.d 0) c.args.x.now c.args.y.now c.loop-i.x (omega arith) (omega arith) (λ k h. c.loop-i.invariant.1 k (omega arith))
