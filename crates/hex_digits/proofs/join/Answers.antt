use Rattle.std.proofs.Common.{arith}
use Rattle.hex_digits.proofs.Digits.{pair}
use Rattle.hex_digits.proofs.join.Goals as goal

pub overflow_mul-high : goal.overflow_mul-high
overflow_mul-high c = omega (arith, pair c.args.digits.now _ c.loop-high.high-index c.requires c.as_chunks.ensures.front (omega arith))

pub overflow_add-high : goal.overflow_add-high
overflow_add-high c = omega (arith, pair c.args.digits.now _ c.loop-high.high-index c.requires c.as_chunks.ensures.front (omega arith))
