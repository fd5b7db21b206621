use Rattle.std.proofs.Common.{arith}
use Rattle.sets.specs.Sets.{dsa_numbers}
use Rattle.mldsa_signing.proofs.Responses.{y_is, cn_is, attempt_is}
use Rattle.mldsa_signing.proofs.attempt.attempt.Goals as goal

pub returns : goal.returns
returns g c =
    let h = g.H.Hash.hashes in
    let key = c.args.key.now in
    let p = dsa_numbers key.set in
    let y = y_is h p c.args.seed.now c.args.kappa _ c.expand_masks.new.y (omega arith) c.expand_masks.ensures.value in
    let c_hat = cn_is h p c.hash_commitment.new.c_tilde _ c.challenge-c_hat.ensures in
    let is = attempt_is h p key.bytes.now c.args.mu.now c.args.seed.now c.args.kappa c.expand_masks.new.y c.commit.new.w c.hash_commitment.new.c_tilde c.challenge-c_hat.result.c
    c.respond.result c.respond.new.sig c.args.sig.now y c.commit.ensures.value c.hash_commitment.ensures c_hat c.respond.ensures.good c.respond.ensures.bytes in
    record { good = is.0; bytes = is.1 }
