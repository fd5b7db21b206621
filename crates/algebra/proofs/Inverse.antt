-- The inverse transform by layers, and that the two undo one another.
use Rattle.std.proofs.Common.{◌≡◌, ℕ, zero, suc, ◌+◌, ◌-◌, ◌*◌, ◌/◌, ◌%◌, ◌^◌, ◌<◌, ◌≤◌, sym, refl, ap, ◌∙◌, subst, ap₂, inl, inr, pow-suc, arith, pow-add}
use Rattle.std.proofs.Math.Nat.{pow-zero, pow-succ', div-add-mod}
use Rattle.std.proofs.lemmas.Bool.{cases_lt}
use Rattle.std.proofs.lemmas.Nat.{div_below, mod_below, pow_pos}
use Rattle.standards.specs.Lists.{sum_to}
use Rattle.algebra.proofs.Sums.{sum_same, sum_to_lem, sum_add, sum_mul, sum_split, sum_zero}
use Rattle.algebra.proofs.Congruence.{Same, ◌▸◌, back_of, same_is, same_add, same_scale, same_mul, same_pow, same_sum, same_cancel, pow_mul, one_pow, pow_mul_base}
use Rattle.algebra.proofs.Residues.{root, residue, root_square, root_minus, residue_none, residue_step}

-- a sum over the leaves of block b, of 2^k leaves
unfoldable pub leaves : (ℕ → ℕ) → ℕ → ℕ → ℕ
leaves g k b = sum_to (2 ^ k) (λ t. g (b * 2 ^ k + t))

-- what stands at place a, i of block b after k layers of the inverse; inverse_root p is to be the inverse of leaf p's root
abbrev pub interpolant : (ℕ → ℕ) → ℕ → ℕ → (ℕ → ℕ) → ℕ → ℕ → ℕ → ℕ
interpolant inverse_root e k f b a i = leaves (λ p. f (e * p + i) * inverse_root p ^ a) k b

pub leaves_split : (g : ℕ → ℕ) (k b : ℕ) → leaves g (suc k) b ≡ leaves g k (2 * b) + leaves g k (2 * b + 1)
unfolding leaves
leaves_split g k b =
    sum_to_lem (λ t. g (b * 2 ^ suc k + t)) {m = 2 ^ suc k} {n = 2 ^ k + 2 ^ k} (omega (arith, pow-succ' 2 k)) ∙
    (sum_split (2 ^ k) (2 ^ k) (λ t. g (b * 2 ^ suc k + t)) ∙ ap₂ ◌+◌ (sum_same (2 ^ k) _ _ (λ t _. ap g {y = 2 * b * 2 ^ k + t} (rw (pow-succ' 2 k) (omega arith))))
    (sum_same (2 ^ k) _ _ (λ t _. ap g {y = (2 * b + 1) * 2 ^ k + t} (rw (pow-succ' 2 k) (omega arith)))))

pub leaves_one : (g : ℕ → ℕ) (b : ℕ) → leaves g 0 b ≡ g b
unfolding leaves sum_to
leaves_one g b = omega (arith, ap g {x = b * 1 + 0} {y = b} (omega arith))

module _ (q w L : ℕ) (minus : Same q (w ^ 2 ^ L + 1) 0) where
  -- a leaf's root, to the power that belongs to the block it is in
  pub leaf_root : (k l b t : ℕ) → l + k ≡ L → t < 2 ^ k → Same q (root w L 0 (b * 2 ^ k + t) ^ 2 ^ k) (root w l k b)
  leaf_root zero l b t h g = same_is (one (root w L 0 (b * 1 + t)) ∙ ap₂ (λ x y. root w x 0 y) {x = L} {y = l} {u = b * 1 + t} {v = b} (omega arith) (omega arith))
    where
      one : (x : ℕ) → x ^ 1 ≡ x
      one x = pow-suc x 0 ∙ (ap (λ y. y * x) (pow-zero x) ∙ omega arith)
  leaf_root (suc k) l b t h g =
      same_is (ap₂ (λ x y. root w L 0 x ^ y) {y = (2 * b + t / 2 ^ k) * 2 ^ k + t % 2 ^ k} {v = 2 ^ k * 2} (rw (pow-succ' 2 k) (omega (arith, div-add-mod t (2 ^ k)))) (pow-suc 2 k) ∙ pow_mul _ (2 ^ k) 2 ∙ square _) ▸
      (let here = leaf_root k (suc l) (2 * b + t / 2 ^ k) (t % 2 ^ k) (omega arith) (mod_below t (2 ^ k) (pow_pos k)) in same_mul here here) ▸
      root_square q w L minus l k b (t / 2 ^ k) (omega arith) (div_below t (2 ^ k) 2 (pow_pos k) (omega (arith, pow-succ' 2 k)))
    where
      square : (x : ℕ) → x ^ 2 ≡ x * x
      square x = pow-suc x 1 ∙ (ap (λ y. y * x) (pow-suc x 0 ∙ ap (λ y. y * x) (pow-zero x)) ∙ omega arith)

  module _ (inverse_root : ℕ → ℕ) (inverses : (i : ℕ) → Same q (root w L 0 i * inverse_root i) 1) where
    pub unit_at : (l k b t : ℕ) → l + k ≡ L → t < 2 ^ k → Same q (root w l k b * inverse_root (b * 2 ^ k + t) ^ 2 ^ k) 1
    unit_at l k b t h g =
        same_mul (back_of (leaf_root k l b t h g)) (same_is refl) ▸ same_is (sym (pow_mul_base (root w L 0 (b * 2 ^ k + t)) (inverse_root (b * 2 ^ k + t)) (2 ^ k))) ▸
        same_pow (2 ^ k) (inverses (b * 2 ^ k + t)) ▸ same_is (one_pow (2 ^ k))

    pub interpolant_diff : (e : ℕ) (f : ℕ → ℕ) (l k b a i : ℕ) → suc (l + k) ≡ L →
        Same q (root w (suc l) k (2 * b) * interpolant inverse_root e (suc k) f b (2 ^ k + a) i + interpolant inverse_root e k f (2 * b + 1) a i) (interpolant inverse_root e k f (2 * b) a i)
    unfolding leaves
    interpolant_diff e f l k b a i h =
        same_is
        (ap (λ x. r * x + T1) (leaves_split (far f) k b) ∙
        (omega arith ∙ ap₂ (λ x y. x + (y + T1)) {x = r * leaves (far f) k (2 * b)} {u = r * leaves (far f) k (2 * b + 1)} (sym (sum_mul (2 ^ k) r _)) (sym (sum_mul (2 ^ k) r _)))) ▸
        same_add (same_sum (2 ^ k) _ (λ t. near f (2 * b * 2 ^ k + t)) (λ t g. left t g))
        (same_is (sym (sum_add (2 ^ k) _ _)) ▸ same_sum (2 ^ k) _ (λ t. 0) (λ t g. right t g) ▸ same_is (sum_zero (2 ^ k))) ▸
        same_is (omega arith)
      where
        near : (ℕ → ℕ) → ℕ → ℕ
        near f p = f (e * p + i) * inverse_root p ^ a

        far : (ℕ → ℕ) → ℕ → ℕ
        far f p = f (e * p + i) * inverse_root p ^ (2 ^ k + a)

        r : ℕ
        r = root w (suc l) k (2 * b)

        T1 : ℕ
        T1 = interpolant inverse_root e k f (2 * b + 1) a i

        apart : (p x : ℕ) → x * far f p ≡ (x * inverse_root p ^ 2 ^ k) * near f p
        apart p x = ap (λ y. x * (f (e * p + i) * y)) (pow-add (inverse_root p) (2 ^ k) a) ∙ omega arith

        left : (t : ℕ) → t < 2 ^ k → Same q (r * far f (2 * b * 2 ^ k + t)) (near f (2 * b * 2 ^ k + t))
        left t g = same_is (apart (2 * b * 2 ^ k + t) r) ▸ same_mul (unit_at (suc l) k (2 * b) t (omega arith) g) (same_is refl) ▸ same_is (omega arith)

        right : (t : ℕ) → t < 2 ^ k → Same q (r * far f ((2 * b + 1) * 2 ^ k + t) + near f ((2 * b + 1) * 2 ^ k + t)) 0
        right t g =
            same_add (same_is (apart ((2 * b + 1) * 2 ^ k + t) r)) (same_is {b = 1 * near f ((2 * b + 1) * 2 ^ k + t)} (omega arith) ▸ same_mul (back_of (unit_at (suc l) k (2 * b + 1) t (omega arith) g)) (same_is refl)) ▸
            same_is {b = (r + root w (suc l) k (2 * b + 1)) * (inverse_root ((2 * b + 1) * 2 ^ k + t) ^ 2 ^ k * near f ((2 * b + 1) * 2 ^ k + t))} (omega arith) ▸
            same_mul (root_minus q w L minus l k b h) (same_is refl) ▸ same_is (omega arith)

    pub cancel : (a b x u : ℕ) → Same q (x * u) 1 → Same q (x * a) (x * b) → Same q a b
    cancel a b x u h g = back_of (over a) ▸ same_scale u g ▸ over b
      where
        over : (c : ℕ) → Same q (u * (x * c)) c
        over c = same_is {b = x * u * c} (omega arith) ▸ same_mul h (same_is refl) ▸ same_is (omega arith)

    module _ (e : ℕ) (f g : ℕ → ℕ) where
      -- in block b the inverse has come to 2^k times the remainder that stood there on the way forward
      abbrev pub Meets : ℕ → ℕ → ℕ → Type 0
      Meets l k b = (a i : ℕ) → a < 2 ^ k → i < e → Same q (interpolant inverse_root e k g b a i) (2 ^ k * residue w e l k f b (e * a + i))

      pub combine-step : (l k b : ℕ) → suc (l + k) ≡ L → Meets (suc l) k (2 * b) → Meets (suc l) k (2 * b + 1) → Meets l (suc k) b
      combine-step l k b h m0 m1 a i below small = elim (cases_lt a (2 ^ k)) [ inl s ↦ first s | inr s ↦ second s ]
        where
          r0 : ℕ
          r0 = root w (suc l) k (2 * b)

          r1 : ℕ
          r1 = root w (suc l) k (2 * b + 1)

          X : ℕ → ℕ
          X c = residue w e l (suc k) f b (e * c + i)

          Y : ℕ → ℕ
          Y c = residue w e l (suc k) f b (e * 2 ^ k + (e * c + i))

          t0 : (c : ℕ) → c < 2 ^ k → Same q (interpolant inverse_root e k g (2 * b) c i) (2 ^ k * (X c + r0 * Y c))
          t0 c s = m0 c i s small ▸ same_scale (2 ^ k) (same_is (ap (λ x. residue w e (suc l) k f x (e * c + i)) {y = 2 * b + 0} (omega arith)) ▸
              residue_step q w L minus e f l k b 0 (e * c + i) h (omega arith) ▸ same_is (ap (λ x. X c + root w (suc l) k x * Y c) {x = 2 * b + 0} {y = 2 * b} (omega arith)))

          t1 : (c : ℕ) → c < 2 ^ k → Same q (interpolant inverse_root e k g (2 * b + 1) c i) (2 ^ k * (X c + r1 * Y c))
          t1 c s = m1 c i s small ▸ same_scale (2 ^ k) (residue_step q w L minus e f l k b 1 (e * c + i) h (omega arith))

          first : a < 2 ^ k → Same q (interpolant inverse_root e (suc k) g b a i) (2 ^ suc k * X a)
          first s =
              same_is (leaves_split _ k b) ▸ same_add (t0 a s) (t1 a s) ▸ same_is {b = 2 ^ suc k * X a + (r0 + r1) * (2 ^ k * Y a)} (rw (pow-succ' 2 k) (omega arith)) ▸
              same_add (same_is refl) (same_mul (root_minus q w L minus l k b h) (same_is refl)) ▸ same_is (omega arith)

          second : 2 ^ k ≤ a → Same q (interpolant inverse_root e (suc k) g b a i) (2 ^ suc k * X a)
          second s =
              same_is (ap (λ x. interpolant inverse_root e (suc k) g b x i) {x = a} {y = 2 ^ k + c} (omega arith)) ▸
              cancel (interpolant inverse_root e (suc k) g b (2 ^ k + c) i) (2 ^ suc k * Y c) r0 _ (unit_at (suc l) k (2 * b) 0 (omega arith) (pow_pos k))
              (same_cancel (2 ^ k * (X c + r1 * Y c))
              (same_add (same_is refl) (back_of (t1 c low)) ▸ interpolant_diff e g l k b c i h ▸ t0 c low ▸ back_of
              (same_is {b = 2 ^ k * (X c + r0 * Y c) + (r0 + r1) * (2 ^ k * Y c)} (rw (pow-succ' 2 k) (omega arith)) ▸ same_add (same_is refl) (same_mul (root_minus q w L minus l k b h) (same_is refl)) ▸ same_is (omega arith)))) ▸
              same_is (ap (λ x. 2 ^ suc k * residue w e l (suc k) f b x) {x = e * 2 ^ k + (e * c + i)} {y = e * a + i} (omega (arith, ap (λ x. e * x) {x = a} {y = 2 ^ k + c} (omega arith))))
            where
              c : ℕ
              c = a - 2 ^ k

              low : c < 2 ^ k
              low = omega (arith, pow-succ' 2 k)

      pub combine : (k l b : ℕ) → l + k ≡ L → b < 2 ^ l → ((p i : ℕ) → p < 2 ^ L → i < e → Same q (g (e * p + i)) (residue w e L 0 f p i)) → Meets l k b
      combine zero l b h top ends a i below small =
          same_is
          (leaves_one (λ p. g (e * p + i) * inverse_root p ^ a) b ∙ (ap (λ x. g (e * b + i) * inverse_root b ^ x) {y = 0} (omega arith) ∙ (ap (λ x. g (e * b + i) * x) (pow-zero (inverse_root b)) ∙ omega arith))) ▸
          ends b i (subst (λ x. b < 2 ^ x) {x = l} {y = L} (omega arith) top) small ▸
          same_is (ap₂ (λ x y. residue w e x 0 f b y) {x = L} {y = l} {u = i} {v = e * a + i} (omega arith) (rw (let j : a ≡ 0 = omega arith in j) (omega arith)) ∙ omega arith)
      combine (suc k) l b h top ends a i below small =
          combine-step l k b (omega arith) (combine k (suc l) (2 * b) (omega arith) (omega (arith, pow-succ' 2 l)) ends) (combine k (suc l) (2 * b + 1) (omega arith) (omega (arith, pow-succ' 2 l)) ends) a i below small

      -- forward after inverse
      abbrev pub Comes : ℕ → ℕ → ℕ → Type 0
      Comes l k b = (a i : ℕ) → a < 2 ^ k → i < e → Same q (2 ^ k * residue w e l k f b (e * a + i)) (interpolant inverse_root e k g b a i)

      pub split_step : (half : ℕ) → Same q (2 * half) 1 → (l k b s : ℕ) → suc (l + k) ≡ L → s < 2 → Comes l (suc k) b → Comes (suc l) k (2 * b + s)
      split_step half hh l k b s h s2 c a i below small =
          cancel (2 ^ k * residue w e (suc l) k f (2 * b + s) (e * a + i)) (T s) 2 half hh
          (same_scale 2 (same_scale (2 ^ k) (residue_step q w L minus e f l k b s (e * a + i) h s2)) ▸
          same_is {b = 2 ^ suc k * X + r s * (2 ^ suc k * residue w e l (suc k) f b (e * (2 ^ k + a) + i))}
          (rw (pow-succ' 2 k, let j : e * (2 ^ k + a) + i ≡ e * 2 ^ k + (e * a + i) = omega arith in j) (omega arith)) ▸
          same_add (c a i (omega (arith, pow-succ' 2 k)) small) (same_scale (r s) (c (2 ^ k + a) i (omega (arith, pow-succ' 2 k)) small)) ▸
          same_is (ap (λ x. x + r s * U) (leaves_split _ k b ∙ ap (λ x. interpolant inverse_root e k g x a i + T 1) {y = 2 * b + 0} (omega arith))) ▸ fin s s2)
        where
          X : ℕ
          X = residue w e l (suc k) f b (e * a + i)

          U : ℕ
          U = interpolant inverse_root e (suc k) g b (2 ^ k + a) i

          r : ℕ → ℕ
          r s = root w (suc l) k (2 * b + s)

          T : ℕ → ℕ
          T s = interpolant inverse_root e k g (2 * b + s) a i

          nought : 2 * b ≡ 2 * b + 0
          nought = omega arith

          diff : Same q (r 0 * U + T 1) (T 0)
          diff = same_is (ap (λ x. root w (suc l) k x * U + T 1) (sym nought)) ▸ interpolant_diff e g l k b a i h ▸ same_is (ap (λ x. interpolant inverse_root e k g x a i) nought)

          fin : (s : ℕ) → s < 2 → Same q (T 0 + T 1 + r s * U) (2 * T s)
          fin zero _ = same_is {b = T 0 + (r 0 * U + T 1)} (omega arith) ▸ same_add (same_is refl) diff ▸ same_is (omega arith)
          fin (suc zero) _ =
              same_add (same_add (back_of diff) (same_is refl)) (same_is refl) ▸
              same_is {b = 2 * T 1 + (root w (suc l) k (2 * b) + r 1) * U} (omega (arith, ap (λ x. root w (suc l) k x * U) nought)) ▸
              same_add (same_is refl) (same_mul (root_minus q w L minus l k b h) (same_is refl)) ▸ same_is (omega arith)
          fin (suc (suc s)) never = absurd (omega arith)

      pub split : (half : ℕ) → Same q (2 * half) 1 → ((a i : ℕ) → a < 2 ^ L → i < e → Same q (2 ^ L * f (e * a + i)) (interpolant inverse_root e L g 0 a i)) →
          (l k b : ℕ) → l + k ≡ L → b < 2 ^ l → Comes l k b
      split half hh starts zero k b h top a i below small =
          same_is (ap₂ (λ x y. 2 ^ x * y) {x = k} {y = L} (omega arith) (residue_none w e k f b (e * a + i))) ▸ starts a i (subst (λ x. a < 2 ^ x) {x = k} {y = L} (omega arith) below) small ▸
          same_is (ap₂ (λ x y. interpolant inverse_root e x g y a i) {x = L} {y = k} {u = 0} {v = b} (omega arith) (omega arith))
      split half hh starts (suc l) k b h top a i below small =
          subst (λ x. Same q (2 ^ k * residue w e (suc l) k f x (e * a + i)) (interpolant inverse_root e k g x a i)) {x = 2 * (b / 2) + b % 2} {y = b} (omega arith)
          (split_step half hh l k (b / 2) (b % 2) (omega arith) (omega arith) (split half hh starts l (suc k) (b / 2) (omega arith) (omega (arith, pow-succ' 2 l))) a i below small)
