-- The layers of the way back, one after the other, come to the inverse.
use Rattle.std.proofs.Common.{◌≡◌, ℕ, zero, suc, ◌+◌, ◌-◌, ◌*◌, ◌/◌, ◌^◌, ◌<◌, ◌≤◌, Bool, T, eqb, List, sym, refl, ap, ◌∙◌, subst, inl, inr, mul-le-mul_left, arith, eqb→eq, pow-add}
use Rattle.std.proofs.Math.Nat.{pow-succ', pow-zero}
use Rattle.std.proofs.lemmas.Bool.{cases_lt}
use Rattle.std.proofs.lemmas.Nat.{shl-shr, pow_pos, mul-add-lt}
use Rattle.standards.specs.Lists.{at}
use Rattle.standards.specs.Bytes.{bit_rev}
use Rattle.algebra.specs.Modular.{sub_m}
use Rattle.algebra.specs.Layers.{gs_low, gs_high, layer_to, inverse_layers, zeta_table}
use Rattle.algebra.proofs.Tests.{all_to, all_to_lem}
use Rattle.algebra.proofs.Tables.{at_table}
use Rattle.algebra.proofs.Blocks.{block_fits}
use Rattle.algebra.proofs.ForwardLayers.{done}
use Rattle.algebra.proofs.Congruence.{Same, ◌▸◌, back_of, same_is, same_mod, same_add, same_scale, same_mul, same_cancel, sub_add, power_is}
use Rattle.algebra.proofs.Residues.{root, two_pow}
use Rattle.algebra.proofs.Inverse.{interpolant, leaves_split, leaves_one, interpolant_diff}

-- z (y - x), where r u = x - y and z r = -1
pub gs_high_is : (q z x y r u : ℕ) → 0 < q → Same q (z * r + 1) 0 → Same q (r * u + y) x → Same q (gs_high q z x y) u
gs_high_is q z x y r u p h g =
    same_mod ▸
    same_cancel (z * (r * u))
    (same_is {b = z * (sub_m q y x + r * u)} (omega arith) ▸ same_scale z nil ▸ same_is {b = 0 * u} (omega arith) ▸ same_mul (back_of h) (same_is refl) ▸ same_is (omega arith))
  where
    nil : Same q (sub_m q y x + r * u) 0
    nil = same_cancel y (same_is {b = sub_m q y x + (r * u + y)} (omega arith) ▸ same_add (same_is refl) g ▸ sub_add q y x p ▸ same_is (omega arith))

module _ (q w L : ℕ) (minus : Same q (w ^ 2 ^ L + 1) 0) (pos : 0 < q) (inverse_root : ℕ → ℕ) (inverses : (i : ℕ) → Same q (root w L 0 i * inverse_root i) 1) (e : ℕ) (whole : e * 2 ^ L ≡ 256) (zs : List ℕ)
    (factors : (l k b : ℕ) → suc (l + k) ≡ L → b < 2 ^ l → Same q (at zs (2 * 2 ^ l - 1 - b) * root w (suc l) k (2 * b) + 1) 0) (f : List ℕ) where
  abbrev pub Backward : ℕ → ℕ → List ℕ → Type 0
  Backward l k F = (b a i : ℕ) → b < 2 ^ l → a < 2 ^ k → i < e → Same q (at F (b * (e * 2 ^ k) + (e * a + i))) (interpolant inverse_root e k (at f) b a i)

  pub backward_step : (l k : ℕ) → suc (l + k) ≡ L → (F : List ℕ) → Backward (suc l) k F →
      Backward l (suc k) (layer_to (gs_low q) (gs_high q) (λ m. at zs (2 * 2 ^ l - 1 - m)) (e * 2 ^ k) (2 ^ l) F)
  backward_step l k h F st b a i hb ha hi =
      same_is (ap (λ x. at G (b * (e * x) + (e * a + i))) (pow-succ' 2 k)) ▸ elim (cases_lt a (2 ^ k)) [ inl s ↦ low s | inr s ↦ high s ]
    where
      len : ℕ
      len = e * 2 ^ k

      z : ℕ → ℕ
      z m = at zs (2 * 2 ^ l - 1 - m)

      G : List ℕ
      G = layer_to (gs_low q) (gs_high q) z len (2 ^ l) F

      half : len * 2 ^ l ≡ 128
      half = omega (arith, ap (λ x. e * x) (two_pow L l k h))

      place : (c : ℕ) → c < 2 ^ k → e * c + i < len
      place c s = omega (arith, mul-add-lt c e i (2 ^ k) s hi)

      both : (c : ℕ) → c < 2 ^ k →
          (at G (2 * len * b + (e * c + i)) ≡ gs_low q (z b) (at F (2 * len * b + (e * c + i))) (at F (2 * len * b + (len + (e * c + i))))) ×
          (at G (2 * len * b + (len + (e * c + i))) ≡ gs_high q (z b) (at F (2 * len * b + (e * c + i))) (at F (2 * len * b + (len + (e * c + i)))))
      both c s = done (gs_low q) (gs_high q) z len F (2 ^ l) b (e * c + i) hb (place c s) (block_fits len (2 ^ l) b half hb)

      left : (c : ℕ) → c < 2 ^ k → Same q (at F (2 * len * b + (e * c + i))) (interpolant inverse_root e k (at f) (2 * b) c i)
      left c s = same_is (ap (at F) {y = 2 * b * len + (e * c + i)} (omega arith)) ▸ st (2 * b) c i (omega (arith, pow-succ' 2 l)) s hi

      right : (c : ℕ) → c < 2 ^ k → Same q (at F (2 * len * b + (len + (e * c + i)))) (interpolant inverse_root e k (at f) (2 * b + 1) c i)
      right c s = same_is (ap (at F) {y = (2 * b + 1) * len + (e * c + i)} (omega arith)) ▸ st (2 * b + 1) c i (omega (arith, pow-succ' 2 l)) s hi

      low : a < 2 ^ k → Same q (at G (b * (e * (2 * 2 ^ k)) + (e * a + i))) (interpolant inverse_root e (suc k) (at f) b a i)
      low s = same_is (ap (at G) {y = 2 * len * b + (e * a + i)} (omega arith) ∙ (both a s).0) ▸ same_mod ▸ same_add (left a s) (right a s) ▸ same_is (sym (leaves_split _ k b))

      high : 2 ^ k ≤ a → Same q (at G (b * (e * (2 * 2 ^ k)) + (e * a + i))) (interpolant inverse_root e (suc k) (at f) b a i)
      high s =
          same_is (ap (at G) {y = 2 * len * b + (len + (e * c + i))} (omega (arith, ap (λ x. e * x) a-is)) ∙ (both c less).1) ▸
          gs_high_is q (z b) _ _ (root w (suc l) k (2 * b)) (interpolant inverse_root e (suc k) (at f) b (2 ^ k + c) i) pos (factors l k b h hb)
          (same_add (same_is refl) (right c less) ▸ interpolant_diff q w L minus inverse_root inverses e (at f) l k b c i h ▸ back_of (left c less)) ▸
          same_is (ap (λ x. interpolant inverse_root e (suc k) (at f) b x i) (sym a-is))
        where
          c : ℕ
          c = a - 2 ^ k

          a-is : a ≡ 2 ^ k + c
          a-is = omega arith

          less : c < 2 ^ k
          less = omega (arith, pow-succ' 2 k)

  pub backward_all : (k l : ℕ) → l + k ≡ L → Backward l k (inverse_layers q zs L k f)
  unfolding inverse_layers
  backward_all zero l h b a i hb ha hi =
      same_is (ap (at f) {y = e * b + i} (omega (arith, ap (λ x. e * x) nought)) ∙ (sym (ap (λ x. at f (e * b + i) * x) (ap (λ x. inverse_root b ^ x) nought ∙ pow-zero (inverse_root b)) ∙ omega arith) ∙ sym (leaves_one (λ p. at f (e * p + i) * inverse_root p ^ a) b)))
    where
      nought : a ≡ 0
      nought = omega arith
  backward_all (suc k) l h b a i hb ha hi =
      subst (λ n. Same q (at (layer_to (gs_low q) (gs_high q) (λ m. at zs (2 * 2 ^ n - 1 - m)) (128 / 2 ^ n) (2 ^ n) (inverse_layers q zs L k f)) (b * (e * 2 ^ suc k) + (e * a + i))) (interpolant inverse_root e (suc k) (at f) b a i)) {x = l} {y = L - 1 - k} (omega arith)
      (subst (λ x. Same q (at (layer_to (gs_low q) (gs_high q) (λ m. at zs (2 * 2 ^ l - 1 - m)) x (2 ^ l) (inverse_layers q zs L k f)) (b * (e * 2 ^ suc k) + (e * a + i))) (interpolant inverse_root e (suc k) (at f) b a i)) {x = e * 2 ^ k} {y = 128 / 2 ^ l}
      (sym (shl-shr (e * 2 ^ k) l) ∙ ap (λ x. x / 2 ^ l) (omega (arith, ap (λ x. e * x) (two_pow L l k (omega arith)))))
      (backward_step l k (omega arith) (inverse_layers q zs L k f) (backward_all k (suc l) (omega arith)) b a i hb ha hi))

-- the table of factors, read from its end: by a computed test on exponents
unfoldable pub inverse_exponents : ℕ → Bool
inverse_exponents L = all_to L (λ l. all_to (2 ^ l) (λ b. eqb (bit_rev L (2 * 2 ^ l - 1 - b) + 2 ^ (L - 1 - l) * (2 * bit_rev (suc l) (2 * b) + 1)) (2 ^ L)))

pub inverse_factors : (q w L : ℕ) → Same q (w ^ 2 ^ L + 1) 0 → T (inverse_exponents L) → (l k b : ℕ) → suc (l + k) ≡ L → b < 2 ^ l → Same q (at (zeta_table q w L) (2 * 2 ^ l - 1 - b) * root w (suc l) k (2 * b) + 1) 0
unfolding inverse_exponents root
inverse_factors q w L minus t l k b h hb =
    same_add
    (same_mul (same_is (at_table (2 ^ L) _ (2 * 2 ^ l - 1 - b) (omega (arith, two_pow L l k h, mul-le-mul_left {m = 1} {n = 2 ^ k} (2 ^ l) (pow_pos k))) ∙ power_is q w (bit_rev L (2 * 2 ^ l - 1 - b))) ▸ same_mod) (same_is refl) ▸
    same_is
    (sym (pow-add w (bit_rev L (2 * 2 ^ l - 1 - b)) (2 ^ k * (2 * bit_rev (suc l) (2 * b) + 1))) ∙
    ap (λ x. w ^ x) (ap (λ x. bit_rev L (2 * 2 ^ l - 1 - b) + 2 ^ x * (2 * bit_rev (suc l) (2 * b) + 1)) {x = k} {y = L - 1 - l} (omega arith) ∙ eqb→eq _ _ (all_to_lem (2 ^ l) _ (all_to_lem L _ t l (omega arith)) b hb))))
    (same_is refl) ▸
    minus
