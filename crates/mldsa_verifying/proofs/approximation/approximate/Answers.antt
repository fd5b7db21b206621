use Rattle.std.proofs.Common.{refl}
use Rattle.sets.specs.Sets.{dsa_numbers}
use Rattle.mldsa_verifying.proofs.Verdict.{w_is}
use Rattle.mldsa_verifying.proofs.approximation.approximate.Goals as goal

pub returns-clause-value : goal.returns-clause-value
returns-clause-value g c =
    w_is g.H.Hash.hashes (dsa_numbers c.args.p) c.args.pk.now c.args.c.now _ _ _ c.args.z.now c.w_rows.new.w
    refl c.challenge-challenge.ensures c.expand_a.ensures.value c.w_rows.ensures.value
