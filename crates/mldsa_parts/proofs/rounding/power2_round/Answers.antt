use Rattle.std.proofs.Common.{arith}
use Rattle.mldsa_parts.proofs.Numbers.{filled_mod}
use Rattle.mldsa_parts.proofs.rounding.power2_round.Goals as goal

pub returns-clause-below : goal.returns-clause-below
returns-clause-below c = filled_mod _ c.args.low.now c.loop-i.low c.loop-i.i (omega arith) c.loop-i.invariant.1
