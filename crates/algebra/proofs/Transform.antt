-- The transforms as the standards have them, sums over powers, undo one another: one proof for any modulus, root and number of layers.
use Rattle.std.proofs.Common.{◌≡◌, ℕ, suc, ◌+◌, ◌*◌, ◌^◌, ◌<◌, sym, refl, ap, ◌∙◌, arith, pow-add}
use Rattle.std.proofs.Math.Nat.{pow-zero, pow-succ'}
use Rattle.std.proofs.lemmas.Nat.{pow_pos}
use Rattle.standards.specs.Lists.{sum_to}
use Rattle.standards.specs.Bytes.{bit_rev}
use Rattle.standards.specs.Ring.{power}
use Rattle.algebra.proofs.Congruence.{Same, ◌▸◌, same_is, same_mod, same_add, same_scale, same_mul, same_pow, same_sum, power_is, pow_mul, one_pow}
use Rattle.algebra.proofs.Residues.{root, residue, residue_none, minus_square}
use Rattle.algebra.proofs.Inverse.{leaves, interpolant, leaves_one, combine, split}

pub power-same : (q n : ℕ) {a b : ℕ} → Same q a b → Same q (power q a n) (b ^ n)
power-same q n {a} h = same_is (power_is q a n) ▸ same_mod ▸ same_pow n h

-- a leaf's root; the transform at leaf p, place i; and its inverse at place e a + i, but for the last factor
abbrev pub leaf : ℕ → ℕ → ℕ → ℕ → ℕ
leaf q w L p = power q w (2 * bit_rev L p + 1)

abbrev pub forward_sum : ℕ → ℕ → ℕ → ℕ → (ℕ → ℕ) → ℕ → ℕ → ℕ
forward_sum q w L e f p i = sum_to (2 ^ L) (λ j. f (e * j + i) * power q (leaf q w L p) j)

abbrev pub inverse_sum : ℕ → ℕ → ℕ → ℕ → ℕ → (ℕ → ℕ) → ℕ → ℕ → ℕ
inverse_sum q w L M e f a i = sum_to (2 ^ L) (λ p. f (e * p + i) * power q (power q (leaf q w L p) M) a)

module _ (q w L M : ℕ) (minus : Same q (w ^ 2 ^ L + 1) 0) (full : suc M ≡ 2 * 2 ^ L) where
  pub leaf_is : (p : ℕ) → Same q (leaf q w L p) (root w L 0 p)
  unfolding root
  leaf_is p = same_is (power_is q w (2 * bit_rev L p + 1)) ▸ same_mod ▸ same_is (ap (λ x. w ^ x) {y = 1 * (2 * bit_rev L p + 1)} (omega arith))

  -- each leaf's root is a root of x^(2^L) = -1 too
  pub leaf_minus : (p : ℕ) → Same q (leaf q w L p ^ 2 ^ L + 1) 0
  leaf_minus p =
      same_add
      (same_pow (2 ^ L) (same_is (power_is q w (2 * bit_rev L p + 1)) ▸ same_mod) ▸
      same_is (sym (pow_mul w (2 * bit_rev L p + 1) (2 ^ L)) ∙ (ap (λ x. w ^ x) {y = (2 ^ L + 2 ^ L) * bit_rev L p + 2 ^ L} (omega arith) ∙ (pow-add w ((2 ^ L + 2 ^ L) * bit_rev L p) (2 ^ L) ∙ ap (λ x. x * w ^ 2 ^ L) (pow_mul w (2 ^ L + 2 ^ L) (bit_rev L p))))) ▸
      same_mul (same_pow (bit_rev L p) (same_is (pow-add w (2 ^ L) (2 ^ L)) ▸ minus_square q w L minus) ▸ same_is (one_pow (bit_rev L p))) (same_is refl) ▸ same_is {b = w ^ 2 ^ L} (omega arith))
      (same_is refl) ▸
      minus

  pub forward_is_residue : (e : ℕ) (f : ℕ → ℕ) (p i : ℕ) → Same q (forward_sum q w L e f p i) (residue w e L 0 f p i)
  unfolding residue
  forward_is_residue e f p i = same_sum (2 ^ L) _ _ (λ j _. same_mul (same_is (ap f {y = e * 1 * j + i} (omega arith))) (power-same q j (leaf_is p)))

  abbrev pub inverse_root : ℕ → ℕ
  inverse_root p = power q (leaf q w L p) M

  pub inverses : (p : ℕ) → Same q (root w L 0 p * inverse_root p) 1
  unfolding root
  inverses p =
      same_scale (root w L 0 p) (power-same q M (leaf_is p)) ▸
      same_is (sym (pow-succ' (root w L 0 p) M) ∙ (sym (pow_mul w (1 * (2 * bit_rev L p + 1)) (suc M)) ∙ (ap (λ x. w ^ x) {y = (2 ^ L + 2 ^ L) * (2 * bit_rev L p + 1)} (rw full (omega arith)) ∙ pow_mul w (2 ^ L + 2 ^ L) (2 * bit_rev L p + 1)))) ▸
      same_pow (2 * bit_rev L p + 1) (same_is (pow-add w (2 ^ L) (2 ^ L)) ▸ minus_square q w L minus) ▸ same_is (one_pow (2 * bit_rev L p + 1))

  pub inverse_is_interpolant : (e : ℕ) (f : ℕ → ℕ) (a i : ℕ) → Same q (inverse_sum q w L M e f a i) (interpolant inverse_root e L f 0 a i)
  unfolding leaves
  inverse_is_interpolant e f a i = same_sum (2 ^ L) _ _ (λ p _. same_is (ap (λ x. f (e * x + i) * power q (power q (leaf q w L x) M) a) {y = 0 * 2 ^ L + p} (omega arith)) ▸ same_scale (f (e * (0 * 2 ^ L + p) + i)) (power-same q a (same_is refl)))

  module _ (e inv : ℕ) (inverse : Same q (inv * 2 ^ L) 1) (f g : ℕ → ℕ) where
    pub inverse_of_forward : ((p i : ℕ) → p < 2 ^ L → i < e → Same q (g (e * p + i)) (forward_sum q w L e f p i)) →
        (a i : ℕ) → a < 2 ^ L → i < e → Same q (inv * inverse_sum q w L M e g a i) (f (e * a + i))
    inverse_of_forward ends a i below small =
        same_scale inv (inverse_is_interpolant e g a i ▸ combine q w L minus inverse_root inverses e f g L 0 0 (omega arith) (pow_pos 0) (λ p i h s. ends p i h s ▸ forward_is_residue e f p i) a i below small) ▸
        same_is {b = inv * 2 ^ L * f (e * a + i)} (rw (residue_none w e L f 0 (e * a + i)) (omega arith)) ▸ same_mul inverse (same_is refl) ▸ same_is (omega arith)

    pub forward_of_inverse : (half : ℕ) → Same q (2 * half) 1 → ((a i : ℕ) → a < 2 ^ L → i < e → Same q (f (e * a + i)) (inv * inverse_sum q w L M e g a i)) →
        (p i : ℕ) → p < 2 ^ L → i < e → Same q (forward_sum q w L e f p i) (g (e * p + i))
    forward_of_inverse half hh starts p i below small =
        forward_is_residue e f p i ▸ same_is {b = 2 ^ 0 * residue w e L 0 f p (e * 0 + i)} (rw (let h : e * 0 + i ≡ i = omega arith in h) (omega arith)) ▸
        split q w L minus inverse_root inverses e f g half hh begins L 0 p (omega arith) below 0 i (pow_pos 0) small ▸
        same_is (leaves_one (λ x. g (e * x + i) * inverse_root x ^ 0) p ∙ rw (pow-zero (inverse_root p)) (omega arith))
      where
        begins : (a i : ℕ) → a < 2 ^ L → i < e → Same q (2 ^ L * f (e * a + i)) (interpolant inverse_root e L g 0 a i)
        begins a i h s = same_scale (2 ^ L) (starts a i h s) ▸ same_is {b = inv * 2 ^ L * inverse_sum q w L M e g a i} (omega arith) ▸ same_mul inverse (inverse_is_interpolant e g a i) ▸ same_is (omega arith)
