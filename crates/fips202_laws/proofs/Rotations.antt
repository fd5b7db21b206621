-- What `rotate_left` gives is a lane turned left.
use Rattle.std.proofs.Common.{◌≡◌, ℕ, zero, suc, ◌+◌, ◌-◌, ◌*◌, ◌/◌, ◌%◌, ◌^◌, ◌<◌, ◌∙◌, add-zero, mod-eq_of_lt, arith}
use Rattle.std.proofs.Math.Nat.{mul-mod_left}
use Rattle.std.specs.Int.Bits.{bit_or, or_shifted, or_self}
use Rattle.std.proofs.lemmas.Nat.{mod-pow-add, shl-shr, shr_below}
use Rattle.standards.specs.Fips202.{rotl}

-- the low j bits of x, moved up by k
shifted : (x j k : ℕ) → (x * 2 ^ k) % 2 ^ (j + k) ≡ (x % 2 ^ j) * 2 ^ k
shifted x j k = mod-pow-add (x * 2 ^ k) j k ∙ rw (shl-shr x k, mul-mod_left x (2 ^ k), add-zero (x % 2 ^ j * 2 ^ k))

parted : (x j k : ℕ) → x < 2 ^ (k + j) → bit_or ((x * 2 ^ k) % 2 ^ (j + k)) (x / 2 ^ j) ≡ (x * 2 ^ k) % 2 ^ (j + k) + x / 2 ^ j
parted x j k h = rw shifted (or_shifted (x % 2 ^ j) k (x / 2 ^ j) (shr_below x k j h))

whole : (x : ℕ) → x < 2 ^ 64 → bit_or ((x * 1) % 2 ^ 64) (x / 1) ≡ (x * 1) % 2 ^ 64 + x / 2 ^ 64
whole x h =
    let low : (x * 1) % 2 ^ 64 ≡ x = omega arith in
    let high : x / 1 ≡ x = omega arith in
    rw (low, high, or_self x) (omega arith)

pub rotated : (x n : ℕ) → x < 2 ^ 64 → n < 64 → bit_or ((x * 2 ^ (n % 64)) % 2 ^ 64) (x / 2 ^ ((64 - n % 64) % 64)) ≡ rotl x n
rotated x zero small below = whole x small
rotated x (suc m) small below =
    let n : ℕ = suc m in
    let low : n % 64 ≡ n = mod-eq_of_lt below in
    let high : (64 - n) % 64 ≡ 64 - n = omega arith in
    let sum : (64 - n) + n ≡ 64 = omega arith in
    let sum' : n + (64 - n) ≡ 64 = omega arith in
    let fits : x < 2 ^ (n + (64 - n)) = rw sum' small in
    rw (low, high) (rw sum at (parted x (64 - n) n fits))
