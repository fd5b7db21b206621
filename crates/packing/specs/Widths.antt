-- The widths in bits at which the schemes pack numbers.
use Rattle.std.specs.Prelude.{ℕ, ◌≤◌, Bool, ◌||◌, ◌==◌, T}
use Rattle.std.proofs.Common.{rules, arith}
use Rattle.std.proofs.lemmas.Bool.Decides.{nat_tests}

-- ML-KEM: messages, the two parts of a ciphertext, keys; and the bits of which small numbers are sampled, 4 or 6
abbrev pub kem_width : ℕ → Bool
kem_width d = d == 1 || d == 4 || d == 5 || d == 6 || d == 10 || d == 11 || d == 12

-- ML-DSA: s1 and s2, w1, t1, t0, z
abbrev pub dsa_width : ℕ → Bool
dsa_width d = d == 3 || d == 4 || d == 6 || d == 10 || d == 13 || d == 18 || d == 20

-- either's
abbrev pub any_width : ℕ → Bool
any_width d = kem_width d || dsa_width d

pub kem_is_any : (d : ℕ) → T (kem_width d) → T (any_width d)
kem_is_any d h = search rules

pub dsa_is_any : (d : ℕ) → T (dsa_width d) → T (any_width d)
dsa_is_any d h = grind (arith, nat_tests)

-- the widest
pub kem_few : (d : ℕ) → T (kem_width d) → d ≤ 12
kem_few d h = search rules

pub dsa_few : (d : ℕ) → T (dsa_width d) → d ≤ 20
dsa_few d h = grind (arith, nat_tests)

-- a word has room for them
pub kem_fits : (d : ℕ) → T (kem_width d) → d ≤ 16
kem_fits d h = omega (arith, kem_few d h)

pub dsa_fits : (d : ℕ) → T (dsa_width d) → d ≤ 32
dsa_fits d h = omega (arith, dsa_few d h)
