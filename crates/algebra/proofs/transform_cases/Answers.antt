use Rattle.algebra.proofs.Monomials.{transform_cases}
use Rattle.algebra.proofs.transform_cases.Goals as goal

pub returns : goal.returns
returns c = transform_cases
