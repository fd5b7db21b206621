use Rattle.std.proofs.Common.{refl}
use Rattle.mlkem_laws.proofs.compress_cases.Goals as goal

pub returns : goal.returns
returns c = (refl, refl, refl, refl, refl, refl)
