-- Candidates of the schemes' draws: those of a block are those of the stream that it was read from, whose first m groups went before.
use Rattle.std.proofs.Common.{◌≡◌, ℕ, ◌+◌, ◌-◌, ◌*◌, ◌/◌, ◌%◌, ◌<◌, cond, eqb, sym, ap, ◌∙◌, ap₂, arith, lit<}
use Rattle.std.proofs.lemmas.Nat.{mod_below}
use Rattle.std.proofs.lemmas.Bool.{cond_both}
use Rattle.standards.specs.Lists.{table, at}
use Rattle.standards.specs.MlKemParts.{candidate12}
use Rattle.standards.specs.MlDsaParts.{candidate23, half_byte, coeff_from_half_byte}
use Rattle.algebra.proofs.Tables.{at_table}

-- byte j of n that were read behind b others
read : (s : ℕ → ℕ) (b n i j : ℕ) → j < n → i ≡ b + j → s i ≡ at (table n (λ k. s (b + k))) j
read s b n i j l e = ap s e ∙ sym (at_table n (λ k. s (b + k)) j l)

-- two of 12 bits in three bytes, by the rest r
two : ℕ → ℕ → ℕ → ℕ → ℕ
two r x y z = cond (eqb r 0) (x + 256 * (y % 16)) (y / 16 + 16 * z)

pub candidate12_block : (s : ℕ → ℕ) (m n k : ℕ) → k < 2 * n → candidate12 s (2 * m + k) ≡ candidate12 (at (table (3 * n) (λ i. s (3 * m + i)))) k
unfolding two
candidate12_block s m n k h =
    let j = 2 * m + k in
    let b = at (table (3 * n) (λ i. s (3 * m + i))) in
    let byte : (i : ℕ) → i < 3 → s (3 * (j / 2) + i) ≡ b (3 * (k / 2) + i) = λ i l. read s (3 * m) (3 * n) (3 * (j / 2) + i) (3 * (k / 2) + i) (omega arith) (omega arith) in
    ap₂ (λ r x. two r x (s (3 * (j / 2) + 1)) (s (3 * (j / 2) + 2))) {x = j % 2} {y = k % 2} (omega arith) (read s (3 * m) (3 * n) (3 * (j / 2)) (3 * (k / 2)) (omega arith) (omega arith)) ∙
    ap₂ (two (k % 2) (b (3 * (k / 2)))) (byte 1 (omega arith)) (byte 2 (omega arith))

-- one of 23 bits in three bytes
pub candidate23_block : (s : ℕ → ℕ) (m n k : ℕ) → k < 1 * n → candidate23 s (1 * m + k) ≡ candidate23 (at (table (3 * n) (λ i. s (3 * m + i)))) k
candidate23_block s m n k h =
    let j = 1 * m + k in
    let b = at (table (3 * n) (λ i. s (3 * m + i))) in
    let byte : (i : ℕ) → i < 3 → s (3 * j + i) ≡ b (3 * k + i) = λ i l. read s (3 * m) (3 * n) (3 * j + i) (3 * k + i) (omega arith) (omega arith) in
    ap₂ (λ x y. x + 65536 * (y % 128)) (ap₂ (λ x y. x + 256 * y) (read s (3 * m) (3 * n) (3 * j) (3 * k) (omega arith) (omega arith)) (byte 1 (omega arith))) (byte 2 (omega arith))

-- two halves of a byte
half : ℕ → ℕ → ℕ
half r x = cond (eqb r 0) (x % 16) (x / 16)

pub half_byte_block : (s : ℕ → ℕ) (m n k : ℕ) → k < 2 * n → half_byte s (2 * m + k) ≡ half_byte (at (table (1 * n) (λ i. s (1 * m + i)))) k
unfolding half
half_byte_block s m n k h =
    let j = 2 * m + k in
    ap₂ half {x = j % 2} {y = k % 2} (omega arith) (read s (1 * m) (1 * n) (j / 2) (k / 2) (omega arith) (omega arith))

-- what a half byte stands for is a number below q
pub coeff_below : (eta z : ℕ) → coeff_from_half_byte eta z < 8380417
coeff_below eta z =
    cond_both (eqb eta 2) ((2 + (8380417 - z % 5)) % 8380417) ((4 + (8380417 - z)) % 8380417) (λ x. x < 8380417) (λ _. mod_below (2 + (8380417 - z % 5)) 8380417 (lit< tt)) (λ _. mod_below (4 + (8380417 - z)) 8380417 (lit< tt))
