-- What is wrong with a line, over any type of problems. Assumes nothing.
use Rattle.std.specs.Prelude.{◌≡◌, ℕ, ◌^◌, Bool, cond, ◌&&◌, List, length, Option, Some, Result, Ok, Err, codes, nat_lt, ⊤}
use Rattle.std.specs.Str.{all_ascii_digits}
use Rattle.std.specs.Str.Parse.{digits_value, without_leading_plus}
use Rattle.lines.specs.declared.failure.Failure.{Failure}
use Rattle.lines.specs.declared.failure.Failure.TheVariants.{Problem, NoMemory}

-- ---- a value, or the first thing that is wrong
infixl 10 ◌>>=◌
abbrev pub ◌>>=◌ : {A B E : Type 0} → Result A E → (A → Result B E) → Result B E
(Ok x) >>= f = f x
(Err e) >>= f = Err e

-- ---- what a function of the code gives, as `view` reads it: what is stated
abbrev pub viewed : {X Y E : Type 0} → (X → Y) → Result X E → Result Y E
viewed view (Ok x) = Ok (view x)
viewed view (Err problem) = Err problem

-- what is stated, or that there is no memory
abbrev pub Gives : {X Y E : Type 0} → (X → Y) → Result X (Failure E) → Result Y E → Type 0
Gives view (Ok x) stated = stated ≡ Ok (view x)
Gives view (Err (Problem problem)) stated = stated ≡ Err problem
Gives view (Err NoMemory) stated = ⊤

-- what a failure prints, where `output` is what a problem prints
abbrev pub printed : {E : Type 0} → (E → Option (List ℕ)) → Failure E → Option (List ℕ)
printed output (Problem problem) = output problem
printed output NoMemory = Some (codes "no memory")

-- ---- words as numbers
-- one decimal digit or more
abbrev pub is_number : List ℕ → Bool
is_number digits = nat_lt 0 (length digits) && all_ascii_digits digits

-- a number of so many bits: decimal digits, behind a plus or not; `other` is wrong with a word that is none
abbrev pub number_in : {E : Type 0} → E → ℕ → List ℕ → Result ℕ E
number_in other bits word =
    let digits = without_leading_plus word in
    cond (is_number digits && nat_lt (digits_value 10 digits) (2 ^ bits)) (Ok (digits_value 10 digits)) (Err other)
