-- High and low parts of a number modulo q = 2 g (N + 1) + 1. Over any g and N, so over both of ML-DSA's gamma2.
use Rattle.std.proofs.Common.{◌≡◌, ℕ, suc, ◌+◌, ◌-◌, ◌*◌, ◌/◌, ◌%◌, ◌<◌, ◌≤◌, cond, eqb, leb, ◌⊎◌, sym, refl, ap, ◌∙◌, inl, inr, mod-lt, mul-le-mul_left, arith}
use Rattle.std.proofs.Math.Nat.{div-add-mod}
use Rattle.std.proofs.lemmas.Nat.{mod-mul-add, div-mul-add}
use Rattle.std.proofs.lemmas.Bool.{cases_lt, cases_eq, cond-true, cond-false, le-leb, lt-leb, eq-eqb, ne_eqb}
use Rattle.standards.specs.MlDsaParts.{high_bits, low_bits}

-- the parts of r: r = 2 g h + u, or r = 2 g h - u, or r = q - u
pub data View (g N r : ℕ) : Type 0 where
  up : (h u : ℕ) → h ≤ N → u ≤ g → r ≡ 2 * g * h + u → View g N r
  down : (h u : ℕ) → suc h ≤ N → 0 < u → u < g → r + u ≡ 2 * g * suc h → View g N r
  wrap : (u : ℕ) → 0 < u → u ≤ g → r + u ≡ 8380417 → View g N r

high_is : (g r d : ℕ) → cond (leb (2 * (r % (2 * g))) (2 * g)) (r - r % (2 * g)) (r + (2 * g - r % (2 * g))) ≡ d → high_bits g r ≡ cond (eqb d 8380416) 0 (d / (2 * g))
high_is g r d e = ap (λ x. cond (eqb x 8380416) 0 (x / (2 * g))) e

low_is : (g r d : ℕ) → cond (leb (2 * (r % (2 * g))) (2 * g)) (r % (2 * g)) (8380417 + r % (2 * g) - 2 * g) ≡ d → low_bits g r ≡ cond (eqb ((r + (8380417 - d)) % 8380417) 8380416) ((d + 8380416) % 8380417) d
low_is g r d e = ap (λ x. cond (eqb ((r + (8380417 - x)) % 8380417) 8380416) ((x + 8380416) % 8380417) x) e

module _ (g N : ℕ) (pos : 0 < g) (whole : 2 * g * suc N + 1 ≡ 8380417) where
  -- 2 g h, and one more 2 g, are at most q - 1
  pub room : (h : ℕ) → h ≤ N → 2 * g * h + 2 * g ≤ 8380416
  room h l = omega (arith, mul-le-mul_left {m = h} {n = N} (2 * g) l)

  rest_up : (r h u : ℕ) → u < 2 * g → r ≡ 2 * g * h + u → r % (2 * g) ≡ u
  rest_up r h u l e = ap (λ x. x % (2 * g)) {y = h * (2 * g) + u} (omega arith) ∙ mod-mul-add h (2 * g) u l

  rest_down : (r h u : ℕ) → 0 < u → u < 2 * g → r + u ≡ 2 * g * suc h → r % (2 * g) ≡ 2 * g - u
  rest_down r h u p l e = rest_up r h (2 * g - u) (omega arith) (omega arith)

  pub whole_by : (h : ℕ) → 2 * g * h / (2 * g) ≡ h
  whole_by h = ap (λ x. x / (2 * g)) {y = h * (2 * g) + 0} (omega arith) ∙ div-mul-add h (2 * g) 0 (omega arith)

  near_d : (r t : ℕ) → r % (2 * g) ≡ t → t ≤ g → cond (leb (2 * (r % (2 * g))) (2 * g)) (r - r % (2 * g)) (r + (2 * g - r % (2 * g))) ≡ r - t
  near_d r t e l = rw e (cond-true _ _ _ (le-leb (2 * t) (2 * g) (omega arith)))

  far_d : (r t : ℕ) → r % (2 * g) ≡ t → g < t → cond (leb (2 * (r % (2 * g))) (2 * g)) (r - r % (2 * g)) (r + (2 * g - r % (2 * g))) ≡ r + (2 * g - t)
  far_d r t e l = rw e (cond-false _ _ _ (lt-leb (2 * t) (2 * g) (omega arith)))

  near_l : (r t : ℕ) → r % (2 * g) ≡ t → t ≤ g → cond (leb (2 * (r % (2 * g))) (2 * g)) (r % (2 * g)) (8380417 + r % (2 * g) - 2 * g) ≡ t
  near_l r t e l = rw e (cond-true _ _ _ (le-leb (2 * t) (2 * g) (omega arith)))

  far_l : (r t : ℕ) → r % (2 * g) ≡ t → g < t → cond (leb (2 * (r % (2 * g))) (2 * g)) (r % (2 * g)) (8380417 + r % (2 * g) - 2 * g) ≡ 8380417 + t - 2 * g
  far_l r t e l = rw e (cond-false _ _ _ (lt-leb (2 * t) (2 * g) (omega arith)))

  -- ---- the high part
  pub high_up : (r h u : ℕ) → h ≤ N → u ≤ g → r ≡ 2 * g * h + u → high_bits g r ≡ h
  high_up r h u k l e =
      high_is g r (2 * g * h) (near_d r u (rest_up r h u (omega arith) e) l ∙ omega arith) ∙ (cond-false _ _ _ (ne_eqb (2 * g * h) 8380416 (λ x. omega (arith, room h k))) ∙ whole_by h)

  pub high_down : (r h u : ℕ) → suc h ≤ N → 0 < u → u < g → r + u ≡ 2 * g * suc h → high_bits g r ≡ suc h
  high_down r h u k p l e =
      high_is g r (2 * g * suc h) (far_d r (2 * g - u) (rest_down r h u p (omega arith) e) (omega arith) ∙ omega arith) ∙
      (cond-false _ _ _ (ne_eqb (2 * g * suc h) 8380416 (λ x. omega (arith, room (suc h) k))) ∙ whole_by (suc h))

  pub high_wrap : (r u : ℕ) → 0 < u → u ≤ g → r + u ≡ 8380417 → high_bits g r ≡ 0
  high_wrap r u p l e = high_is g r 8380416 (both (cases_eq u 1)) ∙ refl
    where
      both : (u ≡ 1) ⊎ (u ≡ 1 → ⊥) → cond (leb (2 * (r % (2 * g))) (2 * g)) (r - r % (2 * g)) (r + (2 * g - r % (2 * g))) ≡ 8380416
      both (inl o) = near_d r 0 (rest_up r (suc N) 0 (omega arith) (omega arith)) (omega arith) ∙ omega arith
      both (inr o) = far_d r (2 * g - (u - 1)) (rest_down r N (u - 1) (omega arith) (omega arith) (omega arith)) (omega arith) ∙ omega arith

  -- ---- the low part
  pub low_up : (r h u : ℕ) → h ≤ N → u ≤ g → r ≡ 2 * g * h + u → low_bits g r ≡ u
  low_up r h u k l e =
      low_is g r u (near_l r u (rest_up r h u (omega arith) e) l) ∙ cond-false _ _ _ (ne_eqb ((r + (8380417 - u)) % 8380417) 8380416 (λ (x : (r + (8380417 - u)) % 8380417 ≡ 8380416). omega (arith, room h k)))

  pub low_down : (r h u : ℕ) → suc h ≤ N → 0 < u → u < g → r + u ≡ 2 * g * suc h → low_bits g r ≡ 8380417 - u
  low_down r h u k p l e =
      low_is g r (8380417 - u) (far_l r (2 * g - u) (rest_down r h u p (omega arith) e) (omega arith) ∙ omega (arith, room (suc h) k)) ∙
      cond-false _ _ _ (ne_eqb ((r + (8380417 - (8380417 - u))) % 8380417) 8380416 (λ (x : (r + (8380417 - (8380417 - u))) % 8380417 ≡ 8380416). omega (arith, room (suc h) k)))

  pub low_wrap : (r u : ℕ) → 0 < u → u ≤ g → r + u ≡ 8380417 → low_bits g r ≡ 8380417 - u
  low_wrap r u p l e = both (cases_eq u 1)
    where
      both : (u ≡ 1) ⊎ (u ≡ 1 → ⊥) → low_bits g r ≡ 8380417 - u
      both (inl o) =
          low_is g r 0 (near_l r 0 (rest_up r (suc N) 0 (omega arith) (omega arith)) (omega arith)) ∙
          (cond-true _ _ _ (eq-eqb ((r + (8380417 - 0)) % 8380417) 8380416 (omega arith)) ∙ omega arith)
      both (inr o) =
          low_is g r (8380417 - (u - 1)) (far_l r (2 * g - (u - 1)) (rest_down r N (u - 1) (omega arith) (omega arith) (omega arith)) (omega arith) ∙ omega (arith, room 0 (omega arith))) ∙
          (cond-true _ _ _ (eq-eqb ((r + (8380417 - (8380417 - (u - 1)))) % 8380417) 8380416 (omega arith)) ∙ omega arith)

  pub view : (r : ℕ) → r < 8380417 → View g N r
  view r b = split (cases_lt g t) (cases_lt N a)
    where
      a : ℕ
      a = r / (2 * g)

      t : ℕ
      t = r % (2 * g)

      is : 2 * g * a + t ≡ r
      is = div-add-mod r (2 * g)

      less : t < 2 * g
      less = mod-lt r (omega arith)

      split : (g < t) ⊎ (t ≤ g) → (N < a) ⊎ (a ≤ N) → View g N r
      split (inr s) (inr k) = up a t k s (sym is)
      split (inr s) (inl k) = wrap 1 (omega arith) (omega arith) (omega (arith, is, mul-le-mul_left {m = suc N} {n = a} (2 * g) k))
      split (inl s) (inl k) = absurd (omega (arith, is, mul-le-mul_left {m = suc N} {n = a} (2 * g) k))
      split (inl s) (inr k) = elim (cases_lt a N) [ inl j ↦ down a (2 * g - t) j (omega (arith, less)) (omega (arith, less)) (omega (arith, is, less)) | inr j ↦ wrap (2 * g - t + 1) (omega arith) (omega (arith, less)) (omega (arith, is, less, mul-le-mul_left {m = N} {n = a} (2 * g) j, mul-le-mul_left {m = a} {n = N} (2 * g) k)) ]
