use Rattle.keccak_lanes.proofs.Vectors.{chosen_lane}
use Rattle.keccak_lanes.proofs.chosen.Goals as goal

pub returns : goal.returns
returns c l h = chosen_lane c.args.x c.args.y c.args.z l c.fits-x.0 c.fits-y.0 c.fits-z.0 h
