-- A byte moved to its place in a lane.
use Rattle.std.proofs.Common.{◌≡◌, ℕ, ◌*◌, ◌%◌, ◌^◌, ◌<◌, ap, ◌∙◌, arith}
use Rattle.algebra.proofs.Congruence.{pow_mul}
use Rattle.std.proofs.lemmas.Nat.{shl_whole}

pub byte_moved : (b j : ℕ) → b < 256 → j < 8 → (b * 2 ^ (8 * j)) % 2 ^ 64 ≡ b * 256 ^ j
byte_moved b j small low = shl_whole b 8 (8 * j) 64 small (omega arith) ∙ ap (λ p. b * p) (pow_mul 2 8 j)
