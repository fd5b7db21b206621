-- The numbers that words write, as they are parsed.
use Rattle.std.proofs.Common.{◌≡◌, ℕ, ◌<◌, ◌^◌, Bool, true, false, cond, ◌&&◌, List, length, Ok, Err, refl, sym, ap, ◌∙◌, nat_lt}
use Rattle.std.specs.Str.{all_ascii_digits}
use Rattle.std.specs.Bool.{Decides}
use Rattle.std.specs.Str.Parse.{IsNumeral, digits_value, without_leading_plus}
use Rattle.std.proofs.lemmas.Bool.Decides.{Decides-and, Decides-ltb}
use Rattle.std.proofs.lemmas.Str.Parse.{numerals_by_value, tells_all_ascii_digits}
use Rattle.lines.specs.Problems.{is_number, number_in}

-- the test of a word tells whether it is a number of so many bits
tells : (bits : ℕ) (digits : List ℕ) → Decides (is_number digits && nat_lt (digits_value 10 digits) (2 ^ bits)) (IsNumeral 10 digits × (digits_value 10 digits < 2 ^ bits))
tells bits digits =
    let model = numerals_by_value (λ ds. all_ascii_digits ds ≡ true) tells_all_ascii_digits in
    Decides-and _ _ (Decides-and _ _ (Decides-ltb 0 (length digits)) (model.to digits, model.from digits)) (Decides-ltb (digits_value 10 digits) (2 ^ bits))

not_true : (b : Bool) {P : Type 0} → Decides b P → ¬ P → b ≡ false
not_true true d n = absurd (n (d.0 refl))
not_true false d n = refl

module _ {E : Type 0} (other : E) where
  pub number_found : (bits : ℕ) (word : List ℕ) (n : ℕ) → let ds = without_leading_plus word in IsNumeral 10 ds → digits_value 10 ds < 2 ^ bits → n ≡ digits_value 10 ds → number_in other bits word ≡ Ok n
  number_found bits word n h small e =
      let digits = without_leading_plus word in
      ap (λ b. cond b (Ok (digits_value 10 digits)) (Err other)) ((tells bits digits).1 (h, small)) ∙ ap Ok (sym e)

  pub number_missing : (bits : ℕ) (word : List ℕ) → let ds = without_leading_plus word in ¬ (IsNumeral 10 ds × (digits_value 10 ds < 2 ^ bits)) → number_in other bits word ≡ Err other
  number_missing bits word none =
      let digits = without_leading_plus word in
      ap (λ b. cond b (Ok (digits_value 10 digits)) (Err other)) (not_true _ (tells bits digits) none)
