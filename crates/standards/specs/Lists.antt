-- Notation: lists of numbers by index, rows of such lists, and sums over an index. Assumes nothing.
use Rattle.std.specs.Prelude.{Bool, true, false, ◌&&◌, List, [], ◌∷◌, ◌++◌, ℕ, zero, suc, ◌+◌, eqb, ltb, length, get_or}

-- f i, f (i + 1), .. : n of them
unfoldable pub from : (ℕ → ℕ) → ℕ → ℕ → List ℕ
from f i zero = []
from f i (suc n) = f i ∷ from f (i + 1) n

-- the list f 0, f 1, .., f (n - 1)
abbrev pub table : ℕ → (ℕ → ℕ) → List ℕ
table n f = from f 0 n

-- the same for rows
unfoldable pub rows : (ℕ → List ℕ) → ℕ → ℕ → List (List ℕ)
rows f i zero = []
rows f i (suc n) = f i ∷ rows f (i + 1) n

abbrev pub tables : ℕ → (ℕ → List ℕ) → List (List ℕ)
tables n f = rows f 0 n

-- the number at place i, 0 past the end
abbrev pub at : List ℕ → ℕ → ℕ
at xs i = get_or xs i 0

-- the row at place i, empty past the end
abbrev pub row_at : List (List ℕ) → ℕ → List ℕ
row_at xs i = get_or xs i []

-- f 0 + .. + f (n - 1)
unfoldable pub sum_to : ℕ → (ℕ → ℕ) → ℕ
sum_to zero f = 0
sum_to (suc n) f = f n + sum_to n f

-- rows one after the other
unfoldable pub joined : List (List ℕ) → List ℕ
joined [] = []
joined (x ∷ xs) = x ++ joined xs

-- equal lists
unfoldable pub same : List ℕ → List ℕ → Bool
same [] [] = true
same [] (y ∷ ys) = false
same (x ∷ xs) [] = false
same (x ∷ xs) (y ∷ ys) = eqb x y && same xs ys

-- every number is below b
unfoldable pub all_below : ℕ → List ℕ → Bool
all_below b [] = true
all_below b (x ∷ xs) = ltb x b && all_below b xs

-- every row has 256 numbers: none of the draws that made them fell short
unfoldable pub all_full : List (List ℕ) → Bool
all_full [] = true
all_full (x ∷ xs) = eqb (length x) 256 && all_full xs
