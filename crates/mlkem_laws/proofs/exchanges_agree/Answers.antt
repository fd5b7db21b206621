use Rattle.mlkem_laws.proofs.Exchange.{exchanges_agree}
use Rattle.mlkem_laws.proofs.exchanges_agree.Goals as goal

pub returns : goal.returns
returns c = exchanges_agree
