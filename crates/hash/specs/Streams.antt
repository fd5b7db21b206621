-- Streams of bytes that are read in parts, and messages that are lent in parts. Assumes nothing.
use Rattle.std.specs.Prelude.{ℕ, ◌+◌, List}
use Rattle.std.specs.List.{flat_map}
use Rattle.std.specs.Borrow.{Bor}

-- a stream of which n bytes have been read
abbrev pub later : ℕ → (ℕ → ℕ) → ℕ → ℕ
later n f i = f (n + i)

-- four streams side by side
pub record Four : Type 0 where
  pub first : ℕ → ℕ
  pub second : ℕ → ℕ
  pub third : ℕ → ℕ
  pub fourth : ℕ → ℕ

-- what a function without end gives of four messages
abbrev pub of_four : (List ℕ → ℕ → ℕ) → List ℕ → List ℕ → List ℕ → List ℕ → Four
of_four f a b c d = record { first = f a; second = f b; third = f c; fourth = f d }

-- four streams of which n bytes each have been read
abbrev pub later_four : ℕ → Four → Four
later_four n s =
    record { first = later n s.first; second = later n s.second; third = later n s.third; fourth = later n s.fourth }

-- a message that is lent in parts
abbrev pub message : List (Bor (List ℕ)) → List ℕ
message parts = flat_map (λ x. x.now) parts
