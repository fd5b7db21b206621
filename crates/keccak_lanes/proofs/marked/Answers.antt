use Rattle.std.specs.Int.Bits.{bit_xor}
use Rattle.keccak_lanes.proofs.Vectors.{splat_lane}
use Rattle.keccak_lanes.proofs.marked.Goals as goal

pub returns : goal.returns
returns c l h = splat_lane bit_xor c.args.x c.args.constant l c.fits-x.0 h
