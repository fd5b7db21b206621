-- How far from 0, and the largest number of a list and of rows.
use Rattle.std.proofs.Common.{◌≡◌, ℕ, zero, suc, ◌-◌, ◌*◌, ◌<◌, ◌≤◌, cond, ltb, ◌⊎◌, List, [], ◌∷◌, length, ap, inl, inr, arith}
use Rattle.std.proofs.lemmas.Bool.{cases_lt, cond-true, cond-false, le-leb, lt-leb, lt-ltb, le-ltb}
use Rattle.standards.specs.Lists.{tables, at, row_at}
use Rattle.standards.specs.Ring.{magnitude, norm, norms}
use Rattle.algebra.proofs.Rows.{length-tables, row_at_lem}

pub magnitude_cases : (q x : ℕ) → ((2 * x ≤ q) × (magnitude q x ≡ x)) ⊎ ((q < 2 * x) × (magnitude q x ≡ q - x))
magnitude_cases q x = elim (cases_lt q (2 * x)) [ inl l ↦ inr (l, cond-false _ _ _ (lt-leb (2 * x) q l)) | inr l ↦ inl (l, cond-true _ _ _ (le-leb (2 * x) q l)) ]

larger : (a b : ℕ) → (a ≤ cond (ltb b a) a b) × (b ≤ cond (ltb b a) a b)
larger a b = elim (cases_lt b a) [ inl l ↦ rw (lt-ltb b a l) (omega arith) | inr l ↦ rw (le-ltb b a l) (omega arith) ]

pub norm-at : (q : ℕ) (xs : List ℕ) (k : ℕ) → k < length xs → magnitude q (at xs k) ≤ norm q xs
unfolding norm
norm-at q [] k h = absurd (omega arith)
norm-at q (x ∷ xs) zero h = (larger (magnitude q x) (norm q xs)).0
norm-at q (x ∷ xs) (suc k) h = omega (arith, norm-at q xs k (omega arith), (larger (magnitude q x) (norm q xs)).1)

pub norms-at : (q : ℕ) (xs : List (List ℕ)) (k : ℕ) → k < length xs → norm q (row_at xs k) ≤ norms q xs
unfolding norms
norms-at q [] k h = absurd (omega arith)
norms-at q (x ∷ xs) zero h = (larger (norm q x) (norms q xs)).0
norms-at q (x ∷ xs) (suc k) h = omega (arith, norms-at q xs k (omega arith), (larger (norm q x) (norms q xs)).1)

-- a number of a row of rows whose largest is below B
pub norms_below : (q B n : ℕ) (f : ℕ → List ℕ) → norms q (tables n f) < B → (i k : ℕ) → i < n → k < length (f i) → magnitude q (at (f i) k) < B
norms_below q B n f h i k li lk =
    omega (arith, norm-at q (f i) k lk, norms-at q (tables n f) i (rw (length-tables n f) li), ap (norm q) (row_at_lem n f i li))
