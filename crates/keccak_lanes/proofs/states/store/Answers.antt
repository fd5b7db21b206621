use Rattle.std.proofs.Common.{arith}
use Rattle.keccak_lanes.proofs.Words.{stored_states}
use Rattle.keccak_lanes.proofs.states.store.Goals as goal

pub returns : goal.returns
returns c =
    let all = c.loop-i.invariant in
    stored_states c.args.lanes.now c.loop-i.words
    (λ k h. all.first k (omega arith)) (λ k h. all.second k (omega arith)) (λ k h. all.third k (omega arith)) (λ k h. all.fourth k (omega arith))
