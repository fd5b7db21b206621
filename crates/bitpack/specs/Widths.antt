-- Rows of numbers have room in memory.
use Rattle.std.specs.Prelude.{◌*◌, ◌^◌, ◌<◌}
use Rattle.std.proofs.Common.{arith}

-- 256 words of 16 bits, and of 32
pub kem_room : 256 * 2 < 2 ^ 63
kem_room = omega arith

pub dsa_room : 256 * 4 < 2 ^ 63
dsa_room = omega arith
