-- A product of polynomials in which x^N is -1, against any sequence c with c (n + N) = - c n.
use Rattle.std.proofs.Common.{◌≡◌, ℕ, ◌+◌, ◌-◌, ◌*◌, ◌/◌, ◌%◌, ◌<◌, Bool, true, false, cond, leb, sym, refl, ap, ◌∙◌, mod-lt, mul_assoc, arith}
use Rattle.std.proofs.Math.Nat.{div-add-mod}
use Rattle.std.proofs.lemmas.Bool.{le-leb, lt-leb, cond-true, cond-false}
use Rattle.standards.specs.Lists.{sum_to}
use Rattle.algebra.proofs.Sums.{sum_same, sum_to_lem, sum_mul, sum_mul_right, sum_split, sum_swap}
use Rattle.algebra.proofs.Congruence.{Same, ◌▸◌, back_of, same_is, same_by, same_mod, same_add, same_scale, same_mul, same_sum, same_cancel}

-- x^i times g, at n
abbrev pub shifted : ℕ → ℕ → (ℕ → ℕ) → ℕ → ℕ → ℕ
shifted q N g i n = cond (leb i n) (g (n - i)) (q - g (n + N - i) % q)

pub cond_times : (b : Bool) (x y z : ℕ) → cond b (x * y) (x * z) ≡ x * cond b y z
cond_times true x y z = refl
cond_times false x y z = refl

module _ (q N : ℕ) (pos : 0 < q) (c : ℕ → ℕ) (turns : (n : ℕ) → Same q (c (n + N) + c n) 0) where
  opposite : (y n : ℕ) → Same q ((q - y % q) * c n) (y * c (n + N))
  opposite y n =
      same_cancel (y * c n)
      (same_by {b = y * 0} 0 (y / q * c n + c n) (omega (arith, ap (λ x. x * c n) whole)) ▸ back_of (same_scale y (turns n)) ▸ same_is (omega arith))
    where
      whole : q - y % q + y ≡ q * (y / q + 1)
      whole = omega (arith, div-add-mod y q, mod-lt y pos)

  pub shifted_sum : (g : ℕ → ℕ) (i : ℕ) → i < N → Same q (sum_to N (λ n. shifted q N g i n * c n)) (sum_to N (λ m. g m * c (i + m)))
  shifted_sum g i h =
      same_is (sum_to_lem _ {n = i + d} (omega arith) ∙ sum_split i d _) ▸
      same_add (same_sum i _ (λ n. g (d + n) * c (i + (d + n))) low) (same_sum d _ (λ n. g n * c (i + n)) high) ▸
      same_is (omega arith ∙ (sym (sum_split d i (λ m. g m * c (i + m))) ∙ sum_to_lem _ {n = N} (omega arith)))
    where
      d : ℕ
      d = N - i

      low : (n : ℕ) → n < i → Same q (shifted q N g i n * c n) (g (d + n) * c (i + (d + n)))
      low n l =
          same_is (ap (λ x. x * c n) (cond-false _ _ _ (lt-leb i n l) ∙ ap (λ x. q - g x % q) {y = d + n} (omega arith))) ▸ opposite (g (d + n)) n ▸
          same_is (ap (λ x. g (d + n) * c x) {x = n + N} {y = i + (d + n)} (omega arith))

      high : (n : ℕ) → n < d → Same q (shifted q N g i (i + n) * c (i + n)) (g n * c (i + n))
      high n l = same_is (ap (λ x. x * c (i + n)) (cond-true _ _ _ (le-leb i (i + n) (omega arith)) ∙ ap g {x = i + n - i} {y = n} (omega arith)))

  -- the product against c: all pairs
  pub product_sum : (f g : ℕ → ℕ) →
      Same q (sum_to N (λ n. sum_to N (λ i. cond (leb i n) (f i * g (n - i)) (f i * (q - g (n + N - i) % q))) % q * c n)) (sum_to N (λ i. f i * sum_to N (λ m. g m * c (i + m))))
  product_sum f g =
      same_sum N _ (λ n. sum_to N (λ i. f i * (shifted q N g i n * c n)))
      (λ n _. same_mul (same_mod ▸ same_is (sum_same N _ (λ i. f i * shifted q N g i n) (λ i _. cond_times (leb i n) (f i) _ _))) (same_is refl) ▸
      same_is (sym (sum_mul_right N (c n) _) ∙ sum_same N _ _ (λ i _. mul_assoc (f i) (shifted q N g i n) (c n)))) ▸
      same_is (sum_swap N N (λ n i. f i * (shifted q N g i n * c n))) ▸
      same_sum N _ (λ i. f i * sum_to N (λ m. g m * c (i + m))) (λ i h. same_is (sum_mul N (f i) _) ▸ same_scale (f i) (shifted_sum g i h))

-- where c (i + m) is a product, the sum is one too
pub split_sum : (N : ℕ) (f g c d : ℕ → ℕ) → sum_to N (λ i. f i * sum_to N (λ m. g m * (c i * d m))) ≡ sum_to N (λ i. f i * c i) * sum_to N (λ m. g m * d m)
split_sum N f g c d =
    sum_same N _ (λ i. f i * c i * sum_to N (λ m. g m * d m))
    (λ i _. ap (λ x. f i * x) (sum_same N _ (λ m. c i * (g m * d m)) (λ m _. omega arith) ∙ sum_mul N (c i) _) ∙ sym (mul_assoc (f i) (c i) _)) ∙
    sum_mul_right N (sum_to N (λ m. g m * d m)) (λ i. f i * c i)
