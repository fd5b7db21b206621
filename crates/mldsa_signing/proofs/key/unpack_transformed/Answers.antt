use Rattle.standards.specs.MlDsaParts.{ntt}
use Rattle.mldsa_signing.proofs.SecretRows.{each_row}
use Rattle.mldsa_signing.proofs.key.unpack_transformed.Goals as goal

pub returns-clause-value : goal.returns-clause-value
returns-clause-value c = each_row ntt _ _ _ _ c.bit_unpack_rows.ensures.value c.ntt_rows.ensures.value
