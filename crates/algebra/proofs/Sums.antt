-- Sums over the first n indices.
use Rattle.std.proofs.Common.{◌≡◌, ℕ, zero, suc, ◌+◌, ◌*◌, ◌<◌, sym, refl, ap, ◌∙◌, inl, inr, mul_comm, arith}
use Rattle.std.proofs.lemmas.Bool.{cases_eq}
use Rattle.standards.specs.Lists.{sum_to}

pub sum_same : (n : ℕ) (f g : ℕ → ℕ) → ((j : ℕ) → j < n → f j ≡ g j) → sum_to n f ≡ sum_to n g
unfolding sum_to
sum_same zero f g h = refl
sum_same (suc n) f g h = omega (arith, h n (omega arith), sum_same n f g (λ j l. h j (omega arith)))

-- a sum by another name of its length, which omega shows
pub sum_to_lem : (f : ℕ → ℕ) {m n : ℕ} → m ≡ n → sum_to m f ≡ sum_to n f
sum_to_lem f e = ap (λ k. sum_to k f) e

-- one part more
pub sum_more : (n : ℕ) (f : ℕ → ℕ) → sum_to (n + 1) f ≡ sum_to n f + f n
unfolding sum_to
sum_more n f = sum_to_lem f {m = n + 1} {n = suc n} (omega arith) ∙ omega arith

pub sum_zero : (n : ℕ) → sum_to n (λ j. 0) ≡ 0
unfolding sum_to
sum_zero zero = refl
sum_zero (suc n) = omega (arith, sum_zero n)

-- a sum of which one part alone is not 0
pub sum_only : (n i : ℕ) (f : ℕ → ℕ) → i < n → ((j : ℕ) → (j ≡ i → ⊥) → f j ≡ 0) → sum_to n f ≡ f i
unfolding sum_to
sum_only zero i f h off = absurd (omega arith)
sum_only (suc n) i f h off = elim (cases_eq n i) [
  | inl e ↦ ap (λ x. f n + x) (sum_same n f (λ j. 0) (λ j l. off j (λ z. omega arith)) ∙ sum_zero n) ∙ (omega arith ∙ ap f e)
  | inr ne ↦ omega (arith, off n ne, sum_only n i f (omega arith) off)
]

pub sum_add : (n : ℕ) (f g : ℕ → ℕ) → sum_to n (λ j. f j + g j) ≡ sum_to n f + sum_to n g
unfolding sum_to
sum_add zero f g = refl
sum_add (suc n) f g = omega (arith, sum_add n f g)

pub sum_mul : (n c : ℕ) (f : ℕ → ℕ) → sum_to n (λ j. c * f j) ≡ c * sum_to n f
unfolding sum_to
sum_mul zero c f = omega arith
sum_mul (suc n) c f = omega (arith, sum_mul n c f)

pub sum_mul_right : (n c : ℕ) (f : ℕ → ℕ) → sum_to n (λ j. f j * c) ≡ sum_to n f * c
sum_mul_right n c f = sum_same n _ (λ j. c * f j) (λ j _. mul_comm (f j) c) ∙ (sum_mul n c f ∙ mul_comm c (sum_to n f))

pub sum_split : (a b : ℕ) (f : ℕ → ℕ) → sum_to (a + b) f ≡ sum_to a f + sum_to b (λ j. f (a + j))
unfolding sum_to
sum_split a zero f = omega (arith, sum_to_lem f {m = a + 0} {n = a} (omega arith))
sum_split a (suc b) f = sum_to_lem f {m = a + suc b} {n = suc (a + b)} (omega arith) ∙ omega (arith, sum_split a b f)

pub sum_pairs : (n : ℕ) (f : ℕ → ℕ) → sum_to (2 * n) f ≡ sum_to n (λ j. f (2 * j)) + sum_to n (λ j. f (2 * j + 1))
unfolding sum_to
sum_pairs zero f = refl
sum_pairs (suc n) f = sum_to_lem f {m = 2 * suc n} {n = suc (suc (2 * n))} (omega arith) ∙ omega (arith, sum_pairs n f, ap f {x = suc (2 * n)} {y = 2 * n + 1} (omega arith))

pub sum_swap : (n m : ℕ) (f : ℕ → ℕ → ℕ) → sum_to n (λ i. sum_to m (f i)) ≡ sum_to m (λ j. sum_to n (λ i. f i j))
unfolding sum_to
sum_swap zero m f = sym (sum_zero m)
sum_swap (suc n) m f = omega (arith, sum_swap n m f, sum_add m (f n) (λ j. sum_to n (λ i. f i j)))
