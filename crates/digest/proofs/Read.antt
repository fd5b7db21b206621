-- The function that a word names, and the number that one writes, as they are parsed.
use Rattle.std.proofs.Common.{◌≡◌, ℕ, ◌<◌, ◌^◌, ◌≢◌, false, List, Ok, Err, bytes_eq, refl, sym, ap, ◌∙◌, arith}
use Rattle.std.specs.Str.Parse.{IsNumeral, digits_value, without_leading_plus}
use Rattle.std.proofs.lemmas.Slice.Eq.{bytes_eq-Decides}
use Rattle.digest.specs.Functions.{name_of}
use Rattle.lines.specs.Problems.{number_in}
use Rattle.lines.proofs.Numbers.{number_found, number_missing}
use Rattle.digest.specs.Answers.{function_of}
use Rattle.digest.specs.declared.functions.Function.{Function}
use Rattle.digest.specs.declared.functions.Function.TheVariants.{Sha3_256, Sha3_512, Shake128, Shake256}
use Rattle.digest.specs.declared.answers.Problem.TheVariants.{NoFunction, NoNumber}

named : (f : Function) → function_of (name_of f) ≡ Ok f
named Sha3_256 = refl
named Sha3_512 = refl
named Shake128 = refl
named Shake256 = refl

pub function_found : (word : List ℕ) (f : Function) → name_of f ≡ word → function_of word ≡ Ok f
function_found word f e = ap function_of (sym e) ∙ named f

differs : (word name : List ℕ) → name ≢ word → bytes_eq word name ≡ false
differs word name ne = grind (arith, bytes_eq-Decides word name)

pub function_missing : (word : List ℕ) → ((f : Function) → name_of f ≢ word) → function_of word ≡ Err NoFunction
function_missing word none =
    rw (differs word (name_of Sha3_256) (none Sha3_256), differs word (name_of Sha3_512) (none Sha3_512), differs word (name_of Shake128) (none Shake128), differs word (name_of Shake256) (none Shake256)) refl

pub count_found : (word : List ℕ) (n : ℕ) → let ds = without_leading_plus word in IsNumeral 10 ds → digits_value 10 ds < 2 ^ 64 → n ≡ digits_value 10 ds → number_in NoNumber 64 word ≡ Ok n
count_found = number_found NoNumber 64

pub count_missing : (word : List ℕ) → let ds = without_leading_plus word in ¬ (IsNumeral 10 ds × (digits_value 10 ds < 2 ^ 64)) → number_in NoNumber 64 word ≡ Err NoNumber
count_missing = number_missing NoNumber 64

pub ruleset function_steps = (function_found, function_missing)

pub ruleset number_steps = (count_found, count_missing)
