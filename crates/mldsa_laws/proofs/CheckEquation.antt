-- What checking computes is what signing had: A z - c t1 2^13 + c s2 = A y + c t0, through the transforms, which are linear.
use Rattle.std.proofs.Common.{◌≡◌, ℕ, zero, suc, ◌+◌, ◌-◌, ◌*◌, ◌%◌, ◌<◌, List, [], sym, refl, ap, ◌∙◌, mod-lt, arith, lit<}
use Rattle.standards.specs.Lists.{table, at, sum_to}
use Rattle.standards.specs.Ring.{power, add_p, sub_p}
use Rattle.standards.specs.Ring.{sum_p}
use Rattle.standards.specs.MlDsaParts.{ntt, ntt_at, ntt_inv, ntt_inv_at, zeta, multiply_ntt}
use Rattle.standards.specs.Ring.{Poly}
use Rattle.algebra.proofs.Sums.{sum_add, sum_mul, sum_same, sum_zero}
use Rattle.algebra.proofs.Tables.{length-table, at_table, below_table}
use Rattle.algebra.proofs.DsaTransform.{dsa_ntt_of_inverse}
use Rattle.algebra.proofs.Congruence.{Same, ◌▸◌, back_of, same_is, same_mod, same_add, same_scale, same_mul, same_sum, same_cancel}

pub poly_table : (f : ℕ → ℕ) → ((k : ℕ) → f k < 8380417) → Poly 8380417 (table 256 f)
poly_table f h = (length-table 256 f, below_table 8380417 256 f (λ k _. h k))

-- ---- sums with weights
pub lin_both : (n : ℕ) (w f g h k : ℕ → ℕ) → ((j : ℕ) → j < n → Same 8380417 (f j + g j) (h j + k j)) → Same 8380417 (sum_to n (λ j. f j * w j) + sum_to n (λ j. g j * w j)) (sum_to n (λ j. h j * w j) + sum_to n (λ j. k j * w j))
lin_both n w f g h k e =
    same_is (sym (sum_add n (λ j. f j * w j) (λ j. g j * w j))) ▸
    same_sum n _ _ (λ j l. same_is {b = (f j + g j) * w j} (omega arith) ▸ same_mul (e j l) (same_is refl) ▸ same_is {b = h j * w j + k j * w j} (omega arith)) ▸
    same_is (sum_add n (λ j. h j * w j) (λ j. k j * w j))

pub ntt-at : (f : List ℕ) (n : ℕ) → n < 256 → Same 8380417 (at (ntt f) n) (sum_to 256 (λ j. at f j * power 8380417 (zeta n) j))
ntt-at f n l = same_is (at_table 256 (ntt_at f) n l) ▸ same_mod

pub ntt_both : (f g h k : List ℕ) → ((j : ℕ) → j < 256 → Same 8380417 (at f j + at g j) (at h j + at k j)) → (n : ℕ) → n < 256 → Same 8380417 (at (ntt f) n + at (ntt g) n) (at (ntt h) n + at (ntt k) n)
ntt_both f g h k e n l = same_add (ntt-at f n l) (ntt-at g n l) ▸ lin_both 256 (power 8380417 (zeta n)) (at f) (at g) (at h) (at k) e ▸ back_of (same_add (ntt-at h n l) (ntt-at k n l))

pub ntt-sum : (h f g : List ℕ) → ((j : ℕ) → j < 256 → Same 8380417 (at h j) (at f j + at g j)) → (n : ℕ) → n < 256 → Same 8380417 (at (ntt h) n) (at (ntt f) n + at (ntt g) n)
ntt-sum h f g e n l =
    same_is {b = at (ntt h) n + 0} (omega arith) ▸ same_add (same_is refl) (back_of (ntt-at [] n l ▸ same_is (sum_same 256 _ (λ j. 0) (λ j _. omega arith) ∙ sum_zero 256))) ▸
    ntt_both h [] f g (λ j s. same_is {b = at h j} (omega arith) ▸ e j s) n l

pub back_at : (f : List ℕ) (n : ℕ) → n < 256 → Same 8380417 (at (ntt_inv f) n) (8347681 * sum_to 256 (λ i. at f i * power 8380417 (power 8380417 (zeta i) 511) n))
back_at f n l = same_is (at_table 256 (ntt_inv_at f) n l) ▸ same_mod ▸ same_scale 8347681 same_mod

pub back_both : (f g h k : List ℕ) → ((j : ℕ) → j < 256 → Same 8380417 (at f j + at g j) (at h j + at k j)) → (n : ℕ) → n < 256 → Same 8380417 (at (ntt_inv f) n + at (ntt_inv g) n) (at (ntt_inv h) n + at (ntt_inv k) n)
back_both f g h k e n l =
    same_add (back_at f n l) (back_at g n l) ▸ same_is (sym (both_scaled (lin f) (lin g))) ▸ same_scale 8347681 (lin_both 256 (λ i. power 8380417 (power 8380417 (zeta i) 511) n) (at f) (at g) (at h) (at k) e) ▸
    same_is (both_scaled (lin h) (lin k)) ▸ back_of (same_add (back_at h n l) (back_at k n l))
  where
    lin : List ℕ → ℕ
    lin f = sum_to 256 (λ i. at f i * power 8380417 (power 8380417 (zeta i) 511) n)

    both_scaled : (a b : ℕ) → 8347681 * (a + b) ≡ 8347681 * a + 8347681 * b
    both_scaled a b = omega arith

pub times_at : (f g : List ℕ) (k : ℕ) → k < 256 → Same 8380417 (at (multiply_ntt f g) k) (at f k * at g k)
times_at f g k l = same_is (at_table 256 (λ i. (at f i * at g i) % 8380417) k l) ▸ same_mod

pub sub_at : (f g : List ℕ) (k : ℕ) → k < 256 → Same 8380417 (at (sub_p 8380417 f g) k + at g k) (at f k)
sub_at f g k l = same_add (same_is (at_table 256 (λ i. (at f i + (8380417 - at g i % 8380417)) % 8380417) k l) ▸ same_mod) (same_is refl) ▸ minus (at f k) (at g k)
  where
    minus : (a b : ℕ) → Same 8380417 (a + (8380417 - b % 8380417) + b) a
    minus a b = record { is = omega arith }

pub add_at : (f g : List ℕ) (k : ℕ) → k < 256 → Same 8380417 (at (add_p 8380417 f g) k) (at f k + at g k)
add_at f g k l = same_is (at_table 256 (λ i. (at f i + at g i) % 8380417) k l) ▸ same_mod

pub sum_p-at : (l : ℕ) (f : ℕ → List ℕ) (k : ℕ) → k < 256 → Same 8380417 (at (sum_p 8380417 l f) k) (sum_to l (λ j. at (f j) k))
unfolding sum_p sum_to
sum_p-at zero f k l = same_is (at_table 256 (λ i. 0) k l)
sum_p-at (suc n) f k l = add_at (f n) (sum_p 8380417 n f) k l ▸ same_add (same_is refl) (sum_p-at n f k l)

pub sum_p_poly : (l : ℕ) (f : ℕ → List ℕ) → Poly 8380417 (sum_p 8380417 l f)
unfolding sum_p
sum_p_poly zero f = poly_table (λ i. 0) (λ k. lit< tt)
sum_p_poly (suc n) f = poly_table (λ i. (at (f n) i + at (sum_p 8380417 n f) i) % 8380417) (λ k. mod-lt _ (lit< tt))

redone : (f : List ℕ) → Poly 8380417 f → ntt (ntt_inv f) ≡ f
redone f h = dsa_ntt_of_inverse f h.0 h.1

module _ (l : ℕ) (A y s z : ℕ → List ℕ) (cn s2 t1 t0 : List ℕ)
    (z_is : (j : ℕ) → j < l → (n : ℕ) → n < 256 → Same 8380417 (at (z j) n) (at (y j) n + at (ntt_inv (multiply_ntt cn (ntt (s j)))) n))
    (key : (n : ℕ) → n < 256 → Same 8380417 (at t1 n + at t0 n) (at (ntt_inv (sum_p 8380417 l (λ j. multiply_ntt (A j) (ntt (s j))))) n + at s2 n)) where
  abbrev row : (ℕ → List ℕ) → List ℕ
  row x = sum_p 8380417 l (λ j. multiply_ntt (A j) (ntt (x j)))

  row_at_lem : (x : ℕ → List ℕ) (k : ℕ) → k < 256 → Same 8380417 (at (row x) k) (sum_to l (λ j. at (A j) k * at (ntt (x j)) k))
  row_at_lem x k h = sum_p-at l (λ j. multiply_ntt (A j) (ntt (x j))) k h ▸ same_sum l _ _ (λ j _. times_at (A j) (ntt (x j)) k h)

  z_at : (j k : ℕ) → j < l → k < 256 → Same 8380417 (at (ntt (z j)) k) (at (ntt (y j)) k + at cn k * at (ntt (s j)) k)
  z_at j k lj lk =
      ntt-sum (z j) (y j) (ntt_inv (multiply_ntt cn (ntt (s j)))) (z_is j lj) k lk ▸
      same_add (same_is refl) (same_is (ap (λ f. at f k) (redone (multiply_ntt cn (ntt (s j))) (poly_table (λ i. (at cn i * at (ntt (s j)) i) % 8380417) (λ i. mod-lt _ (lit< tt))))) ▸ times_at cn (ntt (s j)) k lk)

  key_at : (k : ℕ) → k < 256 → Same 8380417 (at (ntt t1) k + at (ntt t0) k) (sum_to l (λ j. at (A j) k * at (ntt (s j)) k) + at (ntt s2) k)
  key_at k lk = ntt_both t1 t0 (ntt_inv (row s)) s2 key k lk ▸ same_add (same_is (ap (λ f. at f k) (redone (row s) (sum_p_poly l (λ j. multiply_ntt (A j) (ntt (s j)))))) ▸ row_at_lem s k lk) (same_is refl)

  -- the products of A with z, at a place of the transform
  rows_at : (k : ℕ) → k < 256 → Same 8380417 (at (row z) k) (at (row y) k + at cn k * sum_to l (λ j. at (A j) k * at (ntt (s j)) k))
  rows_at k lk =
      row_at_lem z k lk ▸
      same_sum l _ (λ j. at (A j) k * at (ntt (y j)) k + at cn k * (at (A j) k * at (ntt (s j)) k)) (λ j lj. same_scale (at (A j) k) (z_at j k lj lk) ▸ same_is (omega arith)) ▸
      same_is (sum_add l (λ j. at (A j) k * at (ntt (y j)) k) (λ j. at cn k * (at (A j) k * at (ntt (s j)) k))) ▸
      same_add (back_of (row_at_lem y k lk)) (same_is (sum_mul l (at cn k) (λ j. at (A j) k * at (ntt (s j)) k)))

  -- numbers alone
  joined_at : (X C R Y S T1 T0 S2 : ℕ) → Same 8380417 (X + C * T1) R → Same 8380417 R (Y + C * S) → Same 8380417 (T1 + T0) (S + S2) → Same 8380417 (X + C * S2) (Y + C * T0)
  joined_at X C R Y S T1 T0 S2 hx hr hk =
      same_cancel (C * T1)
      (same_is {b = X + C * T1 + C * S2} (omega arith) ▸ same_add (hx ▸ hr) (same_is refl) ▸ same_is {b = Y + C * (S + S2)} (omega arith) ▸ same_add (same_is refl) (same_scale C (back_of hk)) ▸ same_is (omega arith))

  pub checked_is : (n : ℕ) → n < 256 →
      Same 8380417 (at (ntt_inv (sub_p 8380417 (row z) (multiply_ntt cn (ntt t1)))) n + at (ntt_inv (multiply_ntt cn (ntt s2))) n) (at (ntt_inv (row y)) n + at (ntt_inv (multiply_ntt cn (ntt t0))) n)
  checked_is n ln =
      back_both (sub_p 8380417 (row z) (multiply_ntt cn (ntt t1))) (multiply_ntt cn (ntt s2)) (row y) (multiply_ntt cn (ntt t0))
      (λ k lk. same_add (same_is refl) (times_at cn (ntt s2) k lk) ▸
      joined_at (at (sub_p 8380417 (row z) (multiply_ntt cn (ntt t1))) k) (at cn k) (at (row z) k) (at (row y) k) (sum_to l (λ j. at (A j) k * at (ntt (s j)) k)) (at (ntt t1) k) (at (ntt t0) k) (at (ntt s2) k)
      (same_add (same_is refl) (back_of (times_at cn (ntt t1) k lk)) ▸ sub_at (row z) (multiply_ntt cn (ntt t1)) k lk) (rows_at k lk) (key_at k lk) ▸
      same_add (same_is refl) (back_of (times_at cn (ntt t0) k lk))) n ln
