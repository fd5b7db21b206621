-- Vectors and matrices as arrays of plain rows: what the first n rows are.
use Rattle.std.specs.Prelude.{◌≡◌, ℕ, ◌<◌, T, List, length}
use Rattle.standards.specs.Lists.{row_at, all_below}

-- they are below b
abbrev pub RowsBelow : ℕ → ℕ → List (List ℕ) → Type 0
RowsBelow b n v = (j : ℕ) → j < n → T (all_below b (row_at v j))

-- they are f 0, f 1, ..
abbrev pub RowsAre : ℕ → (ℕ → List ℕ) → List (List ℕ) → Type 0
RowsAre n f v = (j : ℕ) → j < n → row_at v j ≡ f j

-- of an array of n rows, the first i are f and below b
pub record RowsFilled (n b : ℕ) (f : ℕ → List ℕ) (i : ℕ) (v : List (List ℕ)) : Type 0 where
  pub long : length v ≡ n
  pub are : RowsAre i f v
  pub below : RowsBelow b i v
