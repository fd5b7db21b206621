use Rattle.sets.specs.Sets.{dsa_numbers}
use Rattle.mldsa_signing.proofs.StepRows.{ct_is}
use Rattle.mldsa_signing.proofs.attempt.multiply_t0.Goals as goal

pub returns-clause-value : goal.returns-clause-value
returns-clause-value c =
    let key = c.args.key.now in
    ct_is (dsa_numbers key.set) key.bytes.now _ key.t0.now _ _ key.t0_is c.requires c.products.ensures.value
