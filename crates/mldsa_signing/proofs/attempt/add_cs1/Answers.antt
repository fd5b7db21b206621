use Rattle.sets.specs.Sets.{dsa_numbers}
use Rattle.mldsa_signing.proofs.StepRows.{z_is}
use Rattle.mldsa_signing.proofs.attempt.add_cs1.Goals as goal

pub returns-clause-value : goal.returns-clause-value
returns-clause-value c =
    let key = c.args.key.now in
    z_is (dsa_numbers key.set) key.bytes.now _ _ key.s1.now _ key.s1_is c.requires.rows c.add_products.ensures.value
