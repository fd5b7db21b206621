use Rattle.keccak_lanes.proofs.Vectors.{xor_five}
use Rattle.keccak_lanes.proofs.parity.Goals as goal

pub returns : goal.returns
returns c l h = let x = c.args in xor_five x.a x.b x.c x.d x.e l c.fits-a.0 c.fits-b.0 c.fits-c.0 c.fits-d.0 c.fits-e.0 h
