-- The transform by layers: what stands in the array after l layers of L, with k = L - l to come, is the remainder of the polynomial f modulo a
-- factor of x^(e 2^L) + 1 for each block. e numbers to a leaf; w a root of x^(2^L) = -1 modulo q.
use Rattle.std.proofs.Common.{◌≡◌, ℕ, suc, ◌+◌, ◌*◌, ◌/◌, ◌%◌, ◌^◌, ◌<◌, sym, refl, ap, ◌∙◌, pow-suc, arith, pow-add}
use Rattle.std.proofs.Math.Nat.{pow-zero, pow-succ'}
use Rattle.standards.specs.Lists.{sum_to}
use Rattle.standards.specs.Bytes.{bit_rev}
use Rattle.algebra.proofs.Sums.{sum_to_lem, sum_mul, sum_pairs}
use Rattle.algebra.proofs.Congruence.{Same, ◌▸◌, back_of, same_is, same_add, same_scale, same_pow, same_sum, same_cancel, pow_mul, one_pow, pow_mul_base}

-- block b of the 2^l blocks after l layers holds remainders modulo x^(e 2^k) - root w l k b
unfoldable pub root : ℕ → ℕ → ℕ → ℕ → ℕ
root w l k b = w ^ (2 ^ k * (2 * bit_rev l b + 1))

unfoldable pub residue : ℕ → ℕ → ℕ → ℕ → (ℕ → ℕ) → ℕ → ℕ → ℕ
residue w e l k f b j = sum_to (2 ^ l) (λ t. f (e * 2 ^ k * t + j) * root w l k b ^ t)

pub residue_none : (w e k : ℕ) (f : ℕ → ℕ) (b j : ℕ) → residue w e 0 k f b j ≡ f j
unfolding residue sum_to
residue_none w e k f b j = rw (pow-zero (root w 0 k b), let h : e * 2 ^ k * 0 + j ≡ j = omega arith in h) (omega arith)

pub bit_rev_step : (l b s : ℕ) → s < 2 → bit_rev (suc l) (2 * b + s) ≡ s * 2 ^ l + bit_rev l b
unfolding bit_rev
bit_rev_step l b s h = rw (let e : (2 * b + s) % 2 ≡ s = omega arith in e, let e : (2 * b + s) / 2 ≡ b = omega arith in e) refl

pub two_pow : (L l k : ℕ) → suc (l + k) ≡ L → 2 ^ L ≡ 2 * (2 ^ l * 2 ^ k)
two_pow L l k h = ap (λ x. 2 ^ x) (sym h) ∙ (pow-succ' 2 (l + k) ∙ ap (λ x. 2 * x) (pow-add 2 l k))

-- the two roots below one: its square roots
pub double : (w E x : ℕ) → w ^ (E + x * 2) ≡ w ^ E * (w ^ x * w ^ x)
double w E x = pow-add w E (x * 2) ∙ ap (λ y. w ^ E * y) (ap (λ y. w ^ y) {x = x * 2} {y = x + x} (omega arith) ∙ pow-add w x x)

pub root_odd : (w L l k b : ℕ) → suc (l + k) ≡ L → root w (suc l) k (2 * b + 1) ≡ root w (suc l) k (2 * b) * w ^ 2 ^ L
unfolding root
root_odd w L l k b h =
    ap (λ x. w ^ x) {x = 2 ^ k * (2 * bit_rev (suc l) (2 * b + 1) + 1)} {y = 2 ^ k * (2 * bit_rev (suc l) (2 * b) + 1) + 2 ^ L}
    (rw (bit_rev_step l b 1 (omega arith), even_step, two_pow L l k h) (omega arith)) ∙ pow-add w (2 ^ k * (2 * bit_rev (suc l) (2 * b) + 1)) (2 ^ L)
  where
    even_step : bit_rev (suc l) (2 * b) ≡ bit_rev l b
    even_step = ap (bit_rev (suc l)) {x = 2 * b} {y = 2 * b + 0} (omega arith) ∙ (bit_rev_step l b 0 (omega arith) ∙ omega arith)

module _ (q w L : ℕ) (minus : Same q (w ^ 2 ^ L + 1) 0) where
  pub minus_square : Same q (w ^ 2 ^ L * w ^ 2 ^ L) 1
  minus_square = sq (w ^ 2 ^ L) minus
    where
      sq : (x : ℕ) → Same q (x + 1) 0 → Same q (x * x) 1
      sq x h = same_cancel x (same_is {b = x * (x + 1)} (omega arith) ▸ same_scale x h ▸ same_is {b = 0} (omega arith) ▸ back_of h ▸ same_is (omega arith))

  pub root_square : (l k b s : ℕ) → suc (l + k) ≡ L → s < 2 → Same q (root w (suc l) k (2 * b + s) * root w (suc l) k (2 * b + s)) (root w l (suc k) b)
  unfolding root
  root_square l k b s h g =
      same_is
      (sym (pow-add w (2 ^ k * (2 * bit_rev (suc l) (2 * b + s) + 1)) (2 ^ k * (2 * bit_rev (suc l) (2 * b + s) + 1))) ∙
      (ap (λ x. w ^ x) {y = 2 ^ suc k * (2 * bit_rev l b + 1) + (2 ^ L * s) * 2} (rw (bit_rev_step l b s g, two_pow L l k h, pow-succ' 2 k) (omega arith)) ∙
      (double w (2 ^ suc k * (2 * bit_rev l b + 1)) (2 ^ L * s) ∙ ap (λ x. w ^ (2 ^ suc k * (2 * bit_rev l b + 1)) * (x * x)) (pow_mul w (2 ^ L) s)))) ▸
      same_scale (w ^ (2 ^ suc k * (2 * bit_rev l b + 1))) (ones s) ▸ same_is (omega arith)
    where
      ones : (s : ℕ) → Same q ((w ^ 2 ^ L) ^ s * (w ^ 2 ^ L) ^ s) 1
      ones s = same_is (sym (pow_mul_base (w ^ 2 ^ L) (w ^ 2 ^ L) s)) ▸ same_pow s minus_square ▸ same_is (one_pow s)

  pub root_minus : (l k b : ℕ) → suc (l + k) ≡ L → Same q (root w (suc l) k (2 * b) + root w (suc l) k (2 * b + 1)) 0
  root_minus l k b h =
      same_is {b = root w (suc l) k (2 * b) * (w ^ 2 ^ L + 1)} (rw (root_odd w L l k b h) (omega arith)) ▸ same_scale (root w (suc l) k (2 * b)) minus ▸ same_is (omega arith)

  module _ (e : ℕ) where
    pub residue_step : (f : ℕ → ℕ) (l k b s j : ℕ) → suc (l + k) ≡ L → s < 2 →
        Same q (residue w e (suc l) k f (2 * b + s) j) (residue w e l (suc k) f b j + root w (suc l) k (2 * b + s) * residue w e l (suc k) f b (e * 2 ^ k + j))
    unfolding residue
    residue_step f l k b s j h g =
        same_is (sum_to_lem G {m = 2 ^ suc l} {n = 2 * 2 ^ l} (pow-succ' 2 l) ∙ sum_pairs (2 ^ l) G) ▸
        same_add (same_sum (2 ^ l) _ _ (λ u _. low u)) (same_sum (2 ^ l) _ (λ u. R * (f (e * 2 ^ suc k * u + (e * 2 ^ k + j)) * root w l (suc k) b ^ u)) (λ u _. high u) ▸ same_is (sum_mul (2 ^ l) R _))
      where
        R : ℕ
        R = root w (suc l) k (2 * b + s)

        G : ℕ → ℕ
        G t = f (e * 2 ^ k * t + j) * R ^ t

        powers : (u : ℕ) → Same q (R ^ (2 * u)) (root w l (suc k) b ^ u)
        powers u = same_is {b = (R * R) ^ u} (pow_mul R 2 u ∙ ap (λ x. x ^ u) (pow-suc R 1 ∙ ap (λ x. x * R) (pow-suc R 0 ∙ ap (λ x. x * R) (pow-zero R) ∙ omega arith))) ▸ same_pow u (root_square l k b s h g)

        low : (u : ℕ) → Same q (f (e * 2 ^ k * (2 * u) + j) * R ^ (2 * u)) (f (e * 2 ^ suc k * u + j) * root w l (suc k) b ^ u)
        low u = same_is (ap (λ x. f x * R ^ (2 * u)) {y = e * 2 ^ suc k * u + j} (rw (pow-succ' 2 k) (omega arith))) ▸ same_scale (f (e * 2 ^ suc k * u + j)) (powers u)

        high : (u : ℕ) → Same q (f (e * 2 ^ k * (2 * u + 1) + j) * R ^ (2 * u + 1)) (R * (f (e * 2 ^ suc k * u + (e * 2 ^ k + j)) * root w l (suc k) b ^ u))
        high u =
            same_is
            (ap (λ x. f x * R ^ (2 * u + 1)) {y = e * 2 ^ suc k * u + (e * 2 ^ k + j)} (rw (pow-succ' 2 k) (omega arith)) ∙
            ap (λ x. f (e * 2 ^ suc k * u + (e * 2 ^ k + j)) * x) {y = R * R ^ (2 * u)} (ap (λ x. R ^ x) {y = suc (2 * u)} (omega arith) ∙ pow-succ' R (2 * u))) ▸
            same_is {b = R * (f (e * 2 ^ suc k * u + (e * 2 ^ k + j)) * R ^ (2 * u))} (omega arith) ▸
            same_scale R (same_scale (f (e * 2 ^ suc k * u + (e * 2 ^ k + j))) (powers u))
