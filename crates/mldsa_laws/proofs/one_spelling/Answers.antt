use Rattle.mldsa_laws.proofs.OneSpelling.{one_spelling}
use Rattle.mldsa_laws.proofs.one_spelling.Goals as goal

pub returns : goal.returns
returns c = one_spelling
