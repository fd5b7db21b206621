use Rattle.std.proofs.Common.{arith}
use Rattle.sets.specs.Sets.{dsa_numbers}
use Rattle.mldsa_verifying.proofs.Verdict.{commitment_hash_is}
use Rattle.mldsa_verifying.proofs.is_commitment_hash.Goals as goal

pub returns : goal.returns
returns g c =
    commitment_hash_is g.H.Hash.hashes (dsa_numbers c.args.p) c.args.pk.now c.args.ctx.now c.args.message.now c.args.w1.now c.args.c.now c.shake256_into.new.out _ c.commitment_hash.new.c _ _
    c.shake256_into.ensures c.message_representative-mu.ensures (omega arith) c.commitment_hash.ensures c.eq.ensures
