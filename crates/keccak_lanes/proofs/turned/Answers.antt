use Rattle.keccak_lanes.proofs.Vectors.{turned_lane}
use Rattle.keccak_lanes.proofs.turned.Goals as goal

pub returns : goal.returns
returns c l h = turned_lane c.args.x c.args.n l c.fits-x.0 c.fits-x.1 c.requires.positive c.requires.bound h
