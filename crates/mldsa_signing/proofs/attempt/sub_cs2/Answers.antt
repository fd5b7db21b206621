use Rattle.sets.specs.Sets.{dsa_numbers}
use Rattle.mldsa_signing.proofs.StepRows.{v_is}
use Rattle.mldsa_signing.proofs.attempt.sub_cs2.Goals as goal

pub returns-clause-value : goal.returns-clause-value
returns-clause-value c =
    let key = c.args.key.now in
    v_is (dsa_numbers key.set) key.bytes.now _ _ key.s2.now _ key.s2_is c.requires.rows c.sub_products.ensures.value
