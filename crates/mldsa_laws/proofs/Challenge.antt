-- A challenge has 256 numbers below q, and weighs at most tau: each round adds at most 1, whatever byte it draws.
use Rattle.std.proofs.Common.{◌≡◌, ℕ, zero, suc, ◌+◌, ◌-◌, ◌/◌, ◌%◌, ◌^◌, ◌<◌, ◌≤◌, cond, eqb, ◌⊎◌, List, length, set, refl, ap, ◌∙◌, inl, inr, arith, lit<}
use Rattle.std.proofs.lemmas.List.{length-set, get_or-set_same, get_or-set_other, get_or_past}
use Rattle.std.proofs.lemmas.Bool.{cond_both, cases_eq, cases_lt}
use Rattle.standards.specs.Lists.{table, at, sum_to}
use Rattle.standards.specs.Ring.{magnitude}
use Rattle.standards.specs.Hashes.{Hashes, Fair}
use Rattle.standards.specs.MlDsaParts.{ball_steps, first_at_most, sample_in_ball, DsaSet}
use Rattle.algebra.proofs.Sums.{sum_same, sum_zero}
use Rattle.algebra.proofs.Tables.{length-table, at_noughts}

-- a sum over a list in which one place is written
pub sum-set : (F : ℕ → ℕ) (c : List ℕ) (i v : ℕ) → i < length c → (n : ℕ) → i < n → sum_to n (λ k. F (at (set c i v) k)) + F (at c i) ≡ sum_to n (λ k. F (at c k)) + F v
unfolding sum_to
sum-set F c i v l zero h = absurd (omega arith)
sum-set F c i v l (suc n) h = elim (cases_eq n i) [
  | inl e ↦ omega (arith, ap F (ap (at (set c i v)) e ∙ get_or-set_same c i v 0 l), ap (λ x. F (at c x)) e, sum_same n (λ k. F (at (set c i v) k)) (λ k. F (at c k)) (λ k s. ap F (get_or-set_other c i k v 0 (λ x. omega arith))))
  | inr ne ↦ omega (arith, ap F (get_or-set_other c i n v 0 ne), sum-set F c i v l n (omega arith))
]

abbrev pub weight : List ℕ → ℕ
weight c = sum_to 256 (λ k. magnitude 8380417 (at c k))

pub record Challenge (c : List ℕ) (W : ℕ) : Type 0 where
  pub long : length c ≡ 256
  pub small : (k : ℕ) → at c k < 8380417
  pub light : weight c ≤ W

small-set : (c : List ℕ) (i v : ℕ) → v < 8380417 → ((k : ℕ) → at c k < 8380417) → (k : ℕ) → at (set c i v) k < 8380417
small-set c i v l h k = elim (cases_lt i (length c)) [ inl b ↦ elim (cases_eq k i) [ inl e ↦ rw (e, get_or-set_same c i v 0 b) l | inr ne ↦ rw (get_or-set_other c i k v 0 ne) (h k) ] | inr b ↦ elim (cases_eq k i) [ inl e ↦ rw (e, get_or_past (set c i v) i 0 (rw (length-set c i v) b)) (lit< tt) | inr ne ↦ rw (get_or-set_other c i k v 0 ne) (h k) ] ]

step : (c : List ℕ) (i j e W : ℕ) → i < 256 → j < 256 → e < 8380417 → magnitude 8380417 e ≡ 1 → Challenge c W → Challenge (set (set c i (at c j)) j e) (suc W)
step c i j e W li lj le fe b =
    record {
      long = length-set (set c i (at c j)) j e ∙ (length-set c i (at c j) ∙ b.long);
      small = small-set (set c i (at c j)) j e le (small-set c i (at c j) (b.small j) b.small);
      light = omega (arith, b.light, fe, sum-set (magnitude 8380417) c i (at c j) (omega (arith, b.long)) 256 li, sum-set (magnitude 8380417) (set c i (at c j)) j e (rw (length-set c i (at c j)) (omega (arith, b.long))) 256 lj, ap (magnitude 8380417) (same_at (cases_eq j i)));
    }
  where
    same_at : (j ≡ i) ⊎ (j ≡ i → ⊥) → at (set c i (at c j)) j ≡ at c j
    same_at (inl q) = ap (at (set c i (at c j))) q ∙ get_or-set_same c i (at c j) 0 (omega (arith, b.long))
    same_at (inr n) = get_or-set_other c i j (at c j) 0 n

steps_are : (s : ℕ → ℕ) → ((i : ℕ) → s i < 256) → (n t pos : ℕ) (c : List ℕ) (W : ℕ) → Challenge c W → Challenge (ball_steps n t pos s c) (n + W)
unfolding ball_steps
steps_are s h zero t pos c W b = record { long = b.long; small = b.small; light = omega (arith, b.light) }
steps_are s h (suc n) t pos c W b =
    let p = first_at_most 1024 pos (256 - suc n) s in
    let r = steps_are s h n (t + 1) (p + 1) _ (suc W) (step c (256 - suc n) (s p) (cond (eqb ((s (t / 8) / 2 ^ (t % 8)) % 2) 1) 8380416 1) W (omega arith) (h p)
    (cond_both (eqb ((s (t / 8) / 2 ^ (t % 8)) % 2) 1) 8380416 1 (λ x. x < 8380417) (λ _. lit< tt) (λ _. lit< tt)) (cond_both (eqb ((s (t / 8) / 2 ^ (t % 8)) % 2) 1) 8380416 1 (λ x. magnitude 8380417 x ≡ 1) (λ _. refl) (λ _. refl)) b) in
    record { long = r.long; small = r.small; light = omega (arith, r.light) }

pub challenge_is : (h : Hashes) → Fair h → (p : DsaSet) (c : List ℕ) → Challenge (sample_in_ball h p c) p.tau
challenge_is h fair p c =
    let r = steps_are (h.shake256 c) (fair.shake256_byte c) p.tau 0 8 (table 256 (λ i. 0)) 0 empty in
    record { long = r.long; small = r.small; light = omega (arith, r.light) }
  where
    empty : Challenge (table 256 (λ i. 0)) 0
    empty = record { long = length-table 256 (λ i. 0); small = λ k. rw (at_noughts 256 k) (lit< tt); light = omega (arith, sum_same 256 (λ k. magnitude 8380417 (at (table 256 (λ i. 0)) k)) (λ k. 0) (λ k _. ap (magnitude 8380417) (at_noughts 256 k)), sum_zero 256) }
