use Rattle.std.proofs.Common.{refl}
use Rattle.mldsa_laws.proofs.rounding_cases.Goals as goal

pub returns : goal.returns
returns c = ((refl, refl, refl, refl, refl, refl), (refl, refl, refl, refl))
