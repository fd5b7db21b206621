use Rattle.sets.specs.Sets.{dsa_numbers}
use Rattle.mldsa_signing.proofs.StepRows.{w_is}
use Rattle.mldsa_signing.proofs.attempt.commit.Goals as goal

pub returns-clause-value : goal.returns-clause-value
returns-clause-value g c =
    let key = c.args.key.now in
    w_is g.H.Hash.hashes (dsa_numbers key.set) key.bytes.now c.args.a.now c.args.y.now _ _ _ _ c.requires.matrix c.requires.rows.0 c.copy_from_slice.ensures.after c.ntt_rows.ensures.value c.requires.rows.1
    c.matrix_product.ensures.value
