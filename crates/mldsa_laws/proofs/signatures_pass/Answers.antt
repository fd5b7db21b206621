use Rattle.mldsa_laws.proofs.SignaturesPass.{signatures_pass}
use Rattle.mldsa_laws.proofs.signatures_pass.Goals as goal

pub returns : goal.returns
returns c = signatures_pass
