use Rattle.std.proofs.Common.{◌≡◌, ◌+◌, ◌*◌, vec_items}
use Rattle.standards.specs.Lists.{table, at}
use Rattle.hex_digits.proofs.join.Given as goal

abbrev pub invariant-loop-high : goal.invariant-loop-high
invariant-loop-high l = vec_items l.bytes ≡ table l.high-index (λ i. 16 * at l.digits (2 * i) + at l.digits (2 * i + 1))
