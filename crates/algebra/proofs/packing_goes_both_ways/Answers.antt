use Rattle.algebra.proofs.Packing.{packing}
use Rattle.algebra.proofs.packing_goes_both_ways.Goals as goal

pub returns : goal.returns
returns c = packing
