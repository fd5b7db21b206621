-- Sums of polynomials, modulo any q.
use Rattle.std.proofs.Common.{◌≡◌, ℕ, zero, suc, ◌+◌, ◌<◌, List, replicate, sym, refl, ap, ap₂, add-one, arith}
use Rattle.standards.specs.Lists.{from}
use Rattle.standards.specs.Ring.{add_p, sum_p}

pub sum_p_none : (q : ℕ) (f : ℕ → List ℕ) → replicate 256 0 ≡ sum_p q 0 f
unfolding sum_p from
sum_p_none q f = refl

pub sum_p_more : (q n : ℕ) (f : ℕ → List ℕ) → add_p q (f n) (sum_p q n f) ≡ sum_p q (n + 1) f
unfolding sum_p
sum_p_more q n f = ap (λ m. sum_p q m f) (sym (add-one n))

pub sum_p-same : (q n : ℕ) (f g : ℕ → List ℕ) → ((k : ℕ) → k < n → f k ≡ g k) → sum_p q n f ≡ sum_p q n g
unfolding sum_p
sum_p-same q zero f g h = refl
sum_p-same q (suc n) f g h = ap₂ (add_p q) (h n (omega arith)) (sum_p-same q n f g (λ k l. h k (omega arith)))
