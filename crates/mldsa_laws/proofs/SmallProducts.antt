-- Numbers modulo q near 0: sums and products of small ones are small. The size of a product with a challenge.
use Rattle.std.proofs.Common.{ℕ, zero, suc, ◌+◌, ◌-◌, ◌*◌, ◌/◌, ◌%◌, ◌<◌, ◌≤◌, leb, List, refl, inl, inr, mul-le-mul_right, mod-lt, arith, lit<}
use Rattle.std.proofs.Math.Nat.{div-add-mod}
use Rattle.std.proofs.lemmas.Nat.{mul-le}
use Rattle.std.proofs.lemmas.Bool.{cond_both}
use Rattle.standards.specs.Lists.{sum_to, at}
use Rattle.standards.specs.Ring.{magnitude, mul_at}
use Rattle.algebra.proofs.Sums.{sum_mul}
use Rattle.algebra.proofs.Congruence.{Same, ◌▸◌, back_of, same_is, same_by, same_mod, same_add, same_scale, same_mul}
use Rattle.algebra.proofs.Norms.{magnitude_cases}
use Rattle.mldsa_laws.proofs.RoundingLemmas.{near_cases}

-- x is plus - minus modulo q, and plus + minus at most B
pub record Near (x B : ℕ) : Type 0 where
  pub plus : ℕ
  pub minus : ℕ
  pub within : plus + minus ≤ B
  pub is : Same 8380417 (x + minus) plus

pub near_far : (x B : ℕ) → x < 8380417 → 2 * B ≤ 8380417 → Near x B → magnitude 8380417 x ≤ B
near_far x B l b n = elim (magnitude_cases 8380417 x) [ inl p ↦ omega (arith, n.is.is, n.within) | inr p ↦ omega (arith, n.is.is, n.within) ]

pub far_near : (x B : ℕ) → x < 8380417 → magnitude 8380417 x ≤ B → Near x B
far_near x B l h = elim (near_cases x B l h) [ inl c ↦ record { plus = x; minus = 0; within = omega arith; is = same_is (omega arith) } | inr c ↦ record { plus = 0; minus = c.0; within = omega arith; is = same_by 0 1 (omega arith) } ]

pub near_wider : {x A B : ℕ} → A ≤ B → Near x A → Near x B
near_wider l n = record { plus = n.plus; minus = n.minus; within = omega (arith, n.within); is = n.is }

pub near_same : {x y B : ℕ} → Same 8380417 x y → Near y B → Near x B
near_same e n = record { plus = n.plus; minus = n.minus; within = n.within; is = same_add e (same_is refl) ▸ n.is }

pub near_zero : Near 0 0
near_zero = record { plus = 0; minus = 0; within = omega arith; is = same_is refl }

pub near_add : {x y A B : ℕ} → Near x A → Near y B → Near (x + y) (A + B)
near_add {x} {y} n m = record { plus = n.plus + m.plus; minus = n.minus + m.minus; within = omega (arith, n.within, m.within); is = same_is {b = x + n.minus + (y + m.minus)} (omega arith) ▸ same_add n.is m.is }

pub near_opposite : {x B : ℕ} → Near x B → Near (8380417 - x % 8380417) B
near_opposite {x} n = record { plus = n.minus; minus = n.plus; within = omega (arith, n.within); is = same_add (same_is {a = 8380417 - x % 8380417} refl) (back_of n.is) ▸ same_by 0 (x / 8380417 + 1) (omega (arith, div-add-mod x 8380417, mod-lt x {m = 8380417} (lit< tt))) }

pub near_mul : {x y A B : ℕ} → Near x A → Near y B → Near (x * y) (A * B)
near_mul {x} {y} {A} {B} n m =
    record {
      plus = n.plus * m.plus + n.minus * m.minus;
      minus = n.plus * m.minus + n.minus * m.plus;
      within = omega (arith, mul-le (n.plus + n.minus) (m.plus + m.minus) A B n.within m.within);
      is = same_add (same_is {a = x * y} refl) (same_add (same_mul (back_of n.is) (same_is {a = m.minus} refl)) (same_scale n.minus (back_of m.is))) ▸ same_is {b = (x + n.minus) * (y + m.minus) + n.minus * m.minus} (omega arith) ▸ same_add (same_mul n.is m.is) (same_is refl);
    }

pub near_sum : (n : ℕ) (f w : ℕ → ℕ) → ((j : ℕ) → Near (f j) (w j)) → Near (sum_to n f) (sum_to n w)
unfolding sum_to
near_sum zero f w h = near_zero
near_sum (suc n) f w h = near_add (h n) (near_sum n f w h)

-- the product of a polynomial of weight W and one whose numbers are all at most E
pub near_product : (c s : List ℕ) (w : ℕ → ℕ) (W E : ℕ) → ((i : ℕ) → Near (at c i) (w i)) → ((k : ℕ) → Near (at s k) E) → sum_to 256 w ≤ W → (n : ℕ) → Near (mul_at 8380417 c s n) (W * E)
near_product c s w W E hc hs l n =
    near_same same_mod
    (near_wider (omega (arith, sum_mul 256 E w, mul-le-mul_right {m = sum_to 256 w} {n = W} E l))
    (near_sum 256 _ (λ i. E * w i)
    (λ i. cond_both (leb i n) (at c i * at s (n - i)) (at c i * (8380417 - at s (n + 256 - i) % 8380417)) (λ x. Near x (E * w i)) (λ _. near_wider (omega arith) (near_mul (hc i) (hs (n - i)))) (λ _. near_wider (omega arith) (near_mul (hc i) (near_opposite (hs (n + 256 - i))))))))

pub small_product : (c s : List ℕ) (w e : ℕ) → 2 * (w * e) ≤ 8380417 → ((i : ℕ) → at c i < 8380417) → sum_to 256 (λ i. magnitude 8380417 (at c i)) ≤ w → ((k : ℕ) → (at s k < 8380417) × (magnitude 8380417 (at s k) ≤ e)) → (n : ℕ) → magnitude 8380417 (mul_at 8380417 c s n) ≤ w * e
small_product c s w e b hc l hs n =
    near_far (mul_at 8380417 c s n) (w * e) (mod-lt _ (lit< tt)) b
    (near_product c s (λ i. magnitude 8380417 (at c i)) w e (λ i. far_near (at c i) (magnitude 8380417 (at c i)) (hc i) (omega arith)) (λ k. far_near (at s k) e (hs k).0 (hs k).1) l n)
