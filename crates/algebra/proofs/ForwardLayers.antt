-- The layers, one after the other, come to the transform.
use Rattle.std.proofs.Common.{◌≡◌, ℕ, zero, suc, ◌+◌, ◌-◌, ◌*◌, ◌/◌, ◌%◌, ◌^◌, ◌<◌, ◌≤◌, Bool, T, eqb, List, sym, refl, ap, ◌∙◌, subst, ap₂, inl, inr, mul-le-mul_left, arith, eqb→eq}
use Rattle.std.proofs.Math.Nat.{pow-succ'}
use Rattle.std.proofs.lemmas.Bool.{cases_eq}
use Rattle.std.proofs.lemmas.Nat.{shl-shr, pow_pos}
use Rattle.standards.specs.Lists.{at}
use Rattle.standards.specs.Bytes.{bit_rev}
use Rattle.algebra.specs.Modular.{mul_m}
use Rattle.algebra.specs.Layers.{ct_low, ct_high, block_to, layer_to, forward_layers, zeta_table}
use Rattle.algebra.proofs.Tests.{all_to, all_to_lem}
use Rattle.algebra.proofs.Tables.{at_table}
use Rattle.algebra.proofs.Blocks.{block_at_low, block_at_high, block_at_before, block_at_after, block_fits}
use Rattle.algebra.proofs.Congruence.{Same, ◌▸◌, back_of, same_is, same_mod, same_add, same_scale, same_mul, same_cancel, sub_add, power_is}
use Rattle.algebra.proofs.Residues.{root, residue, residue_none, residue_step, root_minus, two_pow}

-- what a layer leaves at each place
module _ (g h : ℕ → ℕ → ℕ → ℕ) (z : ℕ → ℕ) (len : ℕ) (f : List ℕ) where
  todo : (m b j : ℕ) → m ≤ b → j < 2 * len → 2 * len * b + j < 256 → at (layer_to g h z len m f) (2 * len * b + j) ≡ at f (2 * len * b + j)
  unfolding layer_to
  todo zero b j l i n = refl
  todo (suc m) b j l i n =
      at_table 256 _ (2 * len * b + j) n ∙
      (block_at_after (g (z m)) (h (z m)) (2 * len * m) len len (layer_to g h z len m f) (2 * len * b + j) (omega arith) (omega (arith, mul-le-mul_left {m = suc m} {n = b} (2 * len) l)) ∙ todo m b j (omega arith) i n)

  pub done : (m b j : ℕ) → b < m → j < len → 2 * len * b + 2 * len ≤ 256 →
      (at (layer_to g h z len m f) (2 * len * b + j) ≡ g (z b) (at f (2 * len * b + j)) (at f (2 * len * b + (len + j)))) ×
      (at (layer_to g h z len m f) (2 * len * b + (len + j)) ≡ h (z b) (at f (2 * len * b + j)) (at f (2 * len * b + (len + j))))
  unfolding layer_to
  done zero b j l i n = absurd (omega arith)
  done (suc m) b j l i n = elim (cases_eq b m) [ inl e ↦ now e | inr ne ↦ before (omega arith) (done m b j (omega arith) i n) ]
    where
      G : List ℕ
      G = layer_to g h z len m f

      before : b < m →
          (at G (2 * len * b + j) ≡ g (z b) (at f (2 * len * b + j)) (at f (2 * len * b + (len + j)))) × (at G (2 * len * b + (len + j)) ≡ h (z b) (at f (2 * len * b + j)) (at f (2 * len * b + (len + j)))) →
          (at (block_to (g (z m)) (h (z m)) (2 * len * m) len len G) (2 * len * b + j) ≡ g (z b) (at f (2 * len * b + j)) (at f (2 * len * b + (len + j)))) ×
          (at (block_to (g (z m)) (h (z m)) (2 * len * m) len len G) (2 * len * b + (len + j)) ≡ h (z b) (at f (2 * len * b + j)) (at f (2 * len * b + (len + j))))
      before l r = (
        at_table 256 _ (2 * len * b + j) (omega arith) ∙ (block_at_before (g (z m)) (h (z m)) (2 * len * m) len len G (2 * len * b + j) (omega (arith, mul-le-mul_left {m = suc b} {n = m} (2 * len) l)) ∙ r.0),
        at_table 256 _ (2 * len * b + (len + j)) (omega arith) ∙ (block_at_before (g (z m)) (h (z m)) (2 * len * m) len len G (2 * len * b + (len + j)) (omega (arith, mul-le-mul_left {m = suc b} {n = m} (2 * len) l)) ∙ r.1),
      )

      now : b ≡ m →
          (at (block_to (g (z m)) (h (z m)) (2 * len * m) len len G) (2 * len * b + j) ≡ g (z b) (at f (2 * len * b + j)) (at f (2 * len * b + (len + j)))) ×
          (at (block_to (g (z m)) (h (z m)) (2 * len * m) len len G) (2 * len * b + (len + j)) ≡ h (z b) (at f (2 * len * b + j)) (at f (2 * len * b + (len + j))))
      now e = (
        at_table 256 _ (2 * len * b + j) (omega arith) ∙
            (block_at_low (g (z m)) (h (z m)) (2 * len * m) len len G (2 * len * b + j) (omega (arith, ap (λ x. 2 * len * x) e)) (omega (arith, ap (λ x. 2 * len * x) e)) ∙
            (ap (λ x. g (z x) (at G (2 * len * b + j)) (at G (2 * len * b + j + len))) (sym e) ∙
            ap₂ (g (z b)) (todo m b j (omega arith) (omega arith) (omega arith)) (ap (at G) {y = 2 * len * b + (len + j)} (omega arith) ∙ todo m b (len + j) (omega arith) (omega arith) (omega arith)))),
        at_table 256 _ (2 * len * b + (len + j)) (omega arith) ∙
            (block_at_high (g (z m)) (h (z m)) (2 * len * m) len len G (2 * len * b + (len + j)) (omega arith) (omega (arith, ap (λ x. 2 * len * x) e)) (omega (arith, ap (λ x. 2 * len * x) e)) ∙
            (ap (λ x. h (z x) (at G (2 * len * b + (len + j) - len)) (at G (2 * len * b + (len + j)))) (sym e) ∙
            ap₂ (h (z b)) (ap (at G) {y = 2 * len * b + j} (omega arith) ∙ todo m b j (omega arith) (omega arith) (omega arith)) (todo m b (len + j) (omega arith) (omega arith) (omega arith)))),
      )

-- the two numbers of a butterfly, modulo q
pub ct_low_is : (q z x y r : ℕ) → Same q z r → Same q (ct_low q z x y) (x + r * y)
ct_low_is q z x y r h = same_mod ▸ same_add (same_is refl) (same_mod ▸ same_mul h (same_is refl))

pub ct_high_is : (q z x y r s : ℕ) → 0 < q → Same q z r → Same q (r + s) 0 → Same q (ct_high q z x y) (x + s * y)
ct_high_is q z x y r s p h g =
    same_cancel (r * y)
    (same_add (same_is refl) (back_of (same_mod ▸ same_mul h (same_is refl))) ▸ sub_add q x (mul_m q z y) p ▸ back_of
    (same_is {b = x + (r + s) * y} (omega arith) ▸ same_add (same_is refl) (same_mul g (same_is refl)) ▸ same_is (omega arith)))

module _ (q w L : ℕ) (minus : Same q (w ^ 2 ^ L + 1) 0) (pos : 0 < q) (e : ℕ) (whole : e * 2 ^ L ≡ 256) (zs : List ℕ)
    (factors : (l k b : ℕ) → suc (l + k) ≡ L → b < 2 ^ l → Same q (at zs (2 ^ l + b)) (root w (suc l) k (2 * b))) (f : List ℕ) where
  abbrev pub Forward : ℕ → ℕ → List ℕ → Type 0
  Forward l k F = (b j : ℕ) → b < 2 ^ l → j < e * 2 ^ k → Same q (at F (b * (e * 2 ^ k) + j)) (residue w e l k (at f) b j)

  pub forward_step : (l k : ℕ) → suc (l + k) ≡ L → (F : List ℕ) → Forward l (suc k) F → Forward (suc l) k (layer_to (ct_low q) (ct_high q) (λ m. at zs (2 ^ l + m)) (e * 2 ^ k) (2 ^ l) F)
  forward_step l k h F st b j hb hj =
      subst (λ x. Same q (at G (x * len + j)) (residue w e (suc l) k (at f) x j)) {x = 2 * (b / 2) + b % 2} {y = b} (omega arith)
      (go (b / 2) (b % 2) (omega arith) (omega (arith, pow-succ' 2 l)))
    where
      len : ℕ
      len = e * 2 ^ k

      G : List ℕ
      G = layer_to (ct_low q) (ct_high q) (λ m. at zs (2 ^ l + m)) len (2 ^ l) F

      half : len * 2 ^ l ≡ 128
      half = omega (arith, ap (λ x. e * x) (two_pow L l k h))

      was : (c i : ℕ) → c < 2 ^ l → i < 2 * len → Same q (at F (2 * len * c + i)) (residue w e l (suc k) (at f) c i)
      was c i hc hi = same_is (ap (at F) {y = c * (e * 2 ^ suc k) + i} (rw (pow-succ' 2 k) (omega arith))) ▸ st c i hc (rw (pow-succ' 2 k) (omega arith))

      both-done : (c : ℕ) → c < 2 ^ l →
          (at G (2 * len * c + j) ≡ ct_low q (at zs (2 ^ l + c)) (at F (2 * len * c + j)) (at F (2 * len * c + (len + j)))) × (at G (2 * len * c + (len + j)) ≡ ct_high q (at zs (2 ^ l + c)) (at F (2 * len * c + j)) (at F (2 * len * c + (len + j))))
      both-done c hc = done (ct_low q) (ct_high q) (λ m. at zs (2 ^ l + m)) len F (2 ^ l) c j hc hj (block_fits len (2 ^ l) c half hc)

      go : (c s : ℕ) → s < 2 → c < 2 ^ l → Same q (at G ((2 * c + s) * len + j)) (residue w e (suc l) k (at f) (2 * c + s) j)
      go c zero _ hc =
          same_is (ap (at G) {y = 2 * len * c + j} (omega arith) ∙ (both-done c hc).0) ▸ ct_low_is q _ _ _ (root w (suc l) k (2 * c)) (factors l k c h hc) ▸
          same_add (was c j hc (omega arith)) (same_scale (root w (suc l) k (2 * c)) (was c (len + j) hc (omega arith))) ▸
          same_is (ap (λ x. residue w e l (suc k) (at f) c j + root w (suc l) k x * residue w e l (suc k) (at f) c (len + j)) {y = 2 * c + 0} (omega arith)) ▸ back_of (residue_step q w L minus e (at f) l k c 0 j h (omega arith))
      go c (suc zero) _ hc =
          same_is (ap (at G) {y = 2 * len * c + (len + j)} (omega arith) ∙ (both-done c hc).1) ▸ ct_high_is q _ _ _ (root w (suc l) k (2 * c)) (root w (suc l) k (2 * c + 1)) pos (factors l k c h hc) (root_minus q w L minus l k c h) ▸
          same_add (was c j hc (omega arith)) (same_scale (root w (suc l) k (2 * c + 1)) (was c (len + j) hc (omega arith))) ▸ back_of (residue_step q w L minus e (at f) l k c 1 j h (omega arith))
      go c (suc (suc s)) never _ = absurd (omega arith)

  pub forward_all : (l k : ℕ) → l + k ≡ L → Forward l k (forward_layers q zs l f)
  unfolding forward_layers
  forward_all zero k h b j hb hj = same_is (ap (at f) {y = j} (rw (let z : b ≡ 0 = omega arith in z) (omega arith)) ∙ sym (residue_none w e k (at f) b j))
  forward_all (suc l) k h b j hb hj =
      subst (λ x. Same q (at (layer_to (ct_low q) (ct_high q) (λ m. at zs (2 ^ l + m)) x (2 ^ l) (forward_layers q zs l f)) (b * (e * 2 ^ k) + j)) (residue w e (suc l) k (at f) b j)) {x = e * 2 ^ k} {y = 128 / 2 ^ l}
      (sym (shl-shr (e * 2 ^ k) l) ∙ ap (λ x. x / 2 ^ l) (omega (arith, ap (λ x. e * x) (two_pow L l k (omega arith)))))
      (forward_step l k (omega arith) (forward_layers q zs l f) (forward_all l (suc k) (omega arith)) b j hb hj)

-- the table of factors, by a computed test on exponents alone
unfoldable pub exponents : ℕ → Bool
exponents L = all_to L (λ l. all_to (2 ^ l) (λ b. eqb (bit_rev L (2 ^ l + b)) (2 ^ (L - 1 - l) * (2 * bit_rev (suc l) (2 * b) + 1))))

pub zeta_factors : (q w L : ℕ) → T (exponents L) → (l k b : ℕ) → suc (l + k) ≡ L → b < 2 ^ l → Same q (at (zeta_table q w L) (2 ^ l + b)) (root w (suc l) k (2 * b))
unfolding exponents root
zeta_factors q w L t l k b h hb =
    same_is (at_table (2 ^ L) _ (2 ^ l + b) (omega (arith, two_pow L l k h, mul-le-mul_left {m = 1} {n = 2 ^ k} (2 ^ l) (pow_pos k)))) ▸ same_is (power_is q w (bit_rev L (2 ^ l + b))) ▸ same_mod ▸
    same_is (ap (λ x. w ^ x) (eqb→eq _ _ (all_to_lem (2 ^ l) _ (all_to_lem L _ t l (omega arith)) b hb) ∙ ap (λ x. 2 ^ x * (2 * bit_rev (suc l) (2 * b) + 1)) {x = L - 1 - l} {y = k} (omega arith)))
