use Rattle.std.proofs.Common.{arith}
use Rattle.keccak_lanes.proofs.Words.{loaded_states}
use Rattle.keccak_lanes.proofs.states.loaded.Goals as goal

pub returns : goal.returns
returns c = loaded_states c.loop-i.lanes c.args.words.now (λ k h. c.loop-i.invariant.1 k (omega arith))
