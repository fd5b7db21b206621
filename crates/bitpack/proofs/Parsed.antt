-- The numbers that words write, as they are parsed.
use Rattle.std.proofs.Common.{◌≡◌, ℕ, ◌*◌, ◌/◌, ◌<◌, ◌≤◌, ◌^◌, ◌≢◌, Bool, true, false, cond, List, Result, Ok, Err, refl, ap, nat_lt, arith}
use Rattle.std.specs.Str.Parse.{IsNumeral, digits_value, without_leading_plus}
use Rattle.std.proofs.lemmas.Bool.Decides.{nat_tests}
use Rattle.std.proofs.Math.Nat.{lt-div-mul-add, div-eq_of_lt, pow-le-pow_right}
use Rattle.std.proofs.lemmas.Nat.{pow_pos}
use Rattle.lines.specs.Problems.{◌>>=◌, number_in}
use Rattle.lines.proofs.Numbers.{number_found, number_missing}
use Rattle.bitpack.specs.Answers.{number_of, width_of}
use Rattle.bitpack.specs.declared.problem.Problem.{Problem}
use Rattle.bitpack.specs.declared.problem.Problem.TheVariants.{NoNumber, TooLarge}

-- a number that fits d bits, and one that does not
pub number_fits : (d : ℕ) (word : List ℕ) (n : ℕ) → let ds = without_leading_plus word in IsNumeral 10 ds → digits_value 10 ds < 2 ^ 32 → n ≡ digits_value 10 ds → n / 2 ^ d ≡ 0 → number_of d word ≡ Ok n
number_fits d word n h small e shifted =
    let below : n < 2 ^ d = omega (arith, lt-div-mul-add {a = n} {b = 2 ^ d} (pow_pos d), ap (λ k. k * 2 ^ d) shifted) in
    let fits : nat_lt n (2 ^ d) ≡ true = grind (arith, nat_tests) in
    rw (number_found NoNumber 32 word n h small e, fits) refl

pub number_exceeds : (d : ℕ) (word : List ℕ) (n : ℕ) → let ds = without_leading_plus word in IsNumeral 10 ds → digits_value 10 ds < 2 ^ 32 → n ≡ digits_value 10 ds → n / 2 ^ d ≢ 0 → number_of d word ≡ Err TooLarge
number_exceeds d word n h small e shifted =
    let exceeds : nat_lt n (2 ^ d) ≡ false = grind (arith, nat_tests, div-eq_of_lt) in
    rw (number_found NoNumber 32 word n h small e, exceeds) refl

pub number_none : (d : ℕ) (word : List ℕ) → let ds = without_leading_plus word in ¬ (IsNumeral 10 ds × (digits_value 10 ds < 2 ^ 32)) → number_of d word ≡ Err NoNumber
number_none d word none = rw (number_missing NoNumber 32 word none) refl

-- a number of d bits has room in a word of as many bits or more
number_small : (d : ℕ) (r : Result ℕ Problem) (x : ℕ) → (r >>= λ y. cond (nat_lt y (2 ^ d)) (Ok y) (Err TooLarge)) ≡ Ok x → x < 2 ^ d
number_small d (Ok y) x h = by (nat_lt y (2 ^ d)) refl h
  where
    by : (b : Bool) → nat_lt y (2 ^ d) ≡ b → cond b (Ok y) (Err TooLarge) ≡ Ok x → x < 2 ^ d
    by true e is = grind (arith, nat_tests)
    by false e is = cc
number_small d (Err e) x h = cc

pub number_has_room : (d bits : ℕ) (word : List ℕ) (x : ℕ) → d ≤ bits → number_of d word ≡ Ok x → x < 2 ^ bits
number_has_room d bits word x h is = omega (arith, number_small d (number_in NoNumber 32 word) x is, pow-le-pow_right {n = 2} (omega arith) h)

-- a width, one that is none of the scheme's, and a word that is no number
pub width_found : (is_width : ℕ → Bool) (other : Problem) (word : List ℕ) (n : ℕ) → let ds = without_leading_plus word in IsNumeral 10 ds → digits_value 10 ds < 2 ^ 64 → n ≡ digits_value 10 ds
    → is_width n ≡ true → width_of is_width other word ≡ Ok n
width_found is_width other word n h small e is = rw (number_found NoNumber 64 word n h small e, is) refl

pub width_other : (is_width : ℕ → Bool) (other : Problem) (word : List ℕ) (n : ℕ) → let ds = without_leading_plus word in IsNumeral 10 ds → digits_value 10 ds < 2 ^ 64 → n ≡ digits_value 10 ds
    → is_width n ≡ false → width_of is_width other word ≡ Err other
width_other is_width other word n h small e is = rw (number_found NoNumber 64 word n h small e, is) refl

pub width_none : (is_width : ℕ → Bool) (other : Problem) (word : List ℕ) → let ds = without_leading_plus word in ¬ (IsNumeral 10 ds × (digits_value 10 ds < 2 ^ 64)) → width_of is_width other word ≡ Err NoNumber
width_none is_width other word none = rw (number_missing NoNumber 64 word none) refl

pub ruleset width_steps = (width_found, width_other, width_none)

pub ruleset parse_steps = (number_fits, number_exceeds, number_none)
