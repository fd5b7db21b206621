use Rattle.std.proofs.Common.{◌*◌, add-zero, arith}
use Rattle.keccak_lanes.proofs.Words.{put_beside}
use Rattle.keccak_lanes.proofs.states.gathered.Goals as goal

pub returns-clause-first : goal.returns-clause-first
returns-clause-first c = put_beside 0 c.loop-i.words c.args.a.now (omega arith) (λ k h. rw (add-zero (4 * k)) (c.loop-i.invariant.first k (omega arith)))

pub returns-clause-second : goal.returns-clause-second
returns-clause-second c = put_beside 1 c.loop-i.words c.args.b.now (omega arith) (λ k h. c.loop-i.invariant.second k (omega arith))

pub returns-clause-third : goal.returns-clause-third
returns-clause-third c = put_beside 2 c.loop-i.words c.args.c.now (omega arith) (λ k h. c.loop-i.invariant.third k (omega arith))

pub returns-clause-fourth : goal.returns-clause-fourth
returns-clause-fourth c = put_beside 3 c.loop-i.words c.args.d.now (omega arith) (λ k h. c.loop-i.invariant.fourth k (omega arith))
