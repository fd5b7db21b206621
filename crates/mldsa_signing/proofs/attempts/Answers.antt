use Rattle.std.proofs.Common.{◌∙◌, arith}
use Rattle.sets.specs.Sets.{dsa_numbers}
use Rattle.mldsa_signing.proofs.Loop.{loop_good, loop_more, loop_out}
use Rattle.mldsa_signing.proofs.attempts.Goals as goal

pub returns-then-attempt : goal.returns-then-attempt
returns-then-attempt g c =
    let key = c.args.key.now in
    let is = loop_good g.H.Hash.hashes (dsa_numbers key.set) key.bytes.now c.args.mu.now c.args.seed.now c.loop-n.n c.loop-n.sig _ c.loop-n.invariant.1
    c.attempt.result c.attempt.new.sig (omega arith) (omega arith) c.attempt.ensures.good c.if-attempt.true c.attempt.ensures.bytes in
    record { verdict = is.0; bytes = is.1 }

pub loop-n-preserved : goal.loop-n-preserved
loop-n-preserved g c =
    let key = c.args.key.now in
    let is = loop_more g.H.Hash.hashes (dsa_numbers key.set) key.bytes.now c.args.mu.now c.args.seed.now c.loop-n.n c.loop-n.sig _ c.loop-n.invariant.1
    c.attempt.result c.attempt.new.sig (omega arith) c.attempt.ensures.good c.if-attempt.false c.attempt.ensures.bytes in
    (is.0 ∙ c.loop-n.invariant.0, is.1)

pub returns-clause-verdict : goal.returns-clause-verdict
returns-clause-verdict g c =
    let key = c.args.key.now in
    loop_out g.H.Hash.hashes (dsa_numbers key.set) key.bytes.now c.args.mu.now c.args.seed.now c.loop-n.n c.loop-n.sig _ c.loop-n.invariant.1 (omega arith)
