use Rattle.keccak_lanes.proofs.Vectors.{still_lane}
use Rattle.keccak_lanes.proofs.still.Goals as goal

pub returns : goal.returns
returns c l h = still_lane c.args.x c.args.d l c.fits-x.0 c.fits-d.0 c.fits-x.1 c.fits-d.1 h
