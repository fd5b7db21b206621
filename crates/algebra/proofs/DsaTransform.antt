-- ML-DSA: NTT and its inverse undo one another, and MultiplyNTT is the product of the ring.
use Rattle.std.proofs.Common.{◌≡◌, ℕ, ◌+◌, ◌*◌, ◌%◌, ◌^◌, ◌<◌, T, List, length, sym, refl, ap, ◌∙◌, mod-lt, arith, lit<, pow-add}
use Rattle.standards.specs.Lists.{at, all_below, sum_to}
use Rattle.standards.specs.Ring.{power, mul_p, mul_at}
use Rattle.standards.specs.MlDsaParts.{ntt, ntt_at, ntt_inv, ntt_inv_at, zeta, multiply_ntt}
use Rattle.algebra.proofs.Sums.{sum_same}
use Rattle.algebra.proofs.Congruence.{Same, ◌▸◌, back_of, same_is, same_mod, same_scale, same_add, same_mul, same_sum}
use Rattle.algebra.proofs.Transform.{forward_sum, inverse_sum, inverse_of_forward, forward_of_inverse, leaf_minus, power-same}
use Rattle.algebra.proofs.Tables.{at_table, is_remainders, table_same, length-table, below_table}
use Rattle.algebra.proofs.NegacyclicProduct.{product_sum, split_sum}

minus : Same 8380417 (1753 ^ 2 ^ 8 + 1) 0
minus = record { is = refl }

-- the spec's sums, with place 1 * j + i for j
one : {m i : ℕ} → i < 1 → m ≡ 1 * m + i
one s = omega arith

pub as_forward : (f : List ℕ) (p i : ℕ) → i < 1 → Same 8380417 (sum_to 256 (λ j. at f j * power 8380417 (zeta p) j)) (forward_sum 8380417 1753 8 1 (at f) p i)
as_forward f p i s = same_is (sum_same 256 _ (λ j. at f (1 * j + i) * power 8380417 (zeta p) j) (λ j _. ap (λ x. at f x * power 8380417 (zeta p) j) (one s)))

pub as_inverse : (f : List ℕ) (a i : ℕ) → i < 1 → Same 8380417 (8347681 * (sum_to 256 (λ j. at f j * power 8380417 (power 8380417 (zeta j) 511) a) % 8380417)) (8347681 * inverse_sum 8380417 1753 8 511 1 (at f) a i)
as_inverse f a i s =
    same_scale 8347681 (same_mod ▸ same_is (sum_same 256 _ (λ j. at f (1 * j + i) * power 8380417 (power 8380417 (zeta j) 511) a) (λ j _. ap (λ x. at f x * power 8380417 (power 8380417 (zeta j) 511) a) (one s))))

ntt-at : (f : List ℕ) (p i : ℕ) → p < 256 → i < 1 → Same 8380417 (at (ntt f) (1 * p + i)) (forward_sum 8380417 1753 8 1 (at f) p i)
ntt-at f p i h s = same_is (ap (at (ntt f)) (sym (one s)) ∙ at_table 256 (ntt_at f) p h) ▸ same_mod ▸ as_forward f p i s

ntt_inv-at : (f : List ℕ) (a i : ℕ) → a < 256 → i < 1 → Same 8380417 (at (ntt_inv f) (1 * a + i)) (8347681 * inverse_sum 8380417 1753 8 511 1 (at f) a i)
ntt_inv-at f a i h s = same_is (ap (at (ntt_inv f)) (sym (one s)) ∙ at_table 256 (ntt_inv_at f) a h) ▸ same_mod ▸ as_inverse f a i s

pub dsa_inverse_of_ntt : (f : List ℕ) → length f ≡ 256 → T (all_below 8380417 f) → ntt_inv (ntt f) ≡ f
dsa_inverse_of_ntt f l b =
    is_remainders 8380417 256 _ f l b
    (λ n h. as_inverse (ntt f) n 0 (lit< tt) ▸ inverse_of_forward 8380417 1753 8 511 minus refl 1 8347681 (record { is = refl }) (at f) (at (ntt f)) (ntt-at f) n 0 h (lit< tt) ▸ same_is (ap (at f) (sym (one (lit< tt)))))

pub dsa_ntt_of_inverse : (f : List ℕ) → length f ≡ 256 → T (all_below 8380417 f) → ntt (ntt_inv f) ≡ f
dsa_ntt_of_inverse f l b =
    is_remainders 8380417 256 _ f l b
    (λ n h. as_forward (ntt_inv f) n 0 (lit< tt) ▸ forward_of_inverse 8380417 1753 8 511 minus refl 1 8347681 (record { is = refl }) (at (ntt_inv f)) (at f) 4190209 (record { is = refl }) (ntt_inv-at f) n 0 h (lit< tt) ▸
    same_is (ap (at f) (sym (one (lit< tt)))))

-- the transform of a product: the products of the values
pub dsa_ntt_of_product : (f g : List ℕ) → multiply_ntt (ntt f) (ntt g) ≡ ntt (mul_p 8380417 f g)
dsa_ntt_of_product f g = table_same 256 _ _ (λ n h. (at_n n h).is)
  where
    c : ℕ → ℕ → ℕ
    c n j = power 8380417 (zeta n) j

    turns : (n k : ℕ) → Same 8380417 (c n (k + 256) + c n k) 0
    turns n k =
        same_add (power-same 8380417 (k + 256) (same_is refl) ▸ same_is (pow-add (zeta n) k 256)) (power-same 8380417 k (same_is refl)) ▸
        same_is {b = zeta n ^ k * (zeta n ^ 256 + 1)} (omega arith) ▸ same_scale (zeta n ^ k) (leaf_minus 8380417 1753 8 511 minus refl n) ▸ same_is (omega arith)

    sums : (n i m : ℕ) → Same 8380417 (c n (i + m)) (c n i * c n m)
    sums n i m = power-same 8380417 (i + m) (same_is refl) ▸ same_is (pow-add (zeta n) i m) ▸ back_of (same_mul (power-same 8380417 i (same_is refl)) (power-same 8380417 m (same_is refl)))

    at_n : (n : ℕ) → n < 256 → Same 8380417 (at (ntt f) n * at (ntt g) n) (sum_to 256 (λ j. at (mul_p 8380417 f g) j * c n j))
    at_n n h =
        same_mul (same_is (at_table 256 (ntt_at f) n h) ▸ same_mod) (same_is (at_table 256 (ntt_at g) n h) ▸ same_mod) ▸
        same_is (sym (split_sum 256 (at f) (at g) (c n) (c n))) ▸
        same_sum 256 _ _ (λ i _. same_scale (at f i) (same_sum 256 _ _ (λ m _. same_scale (at g m) (back_of (sums n i m))))) ▸
        back_of (product_sum 8380417 256 (lit< tt) (c n) (turns n) (at f) (at g)) ▸
        same_is (sum_same 256 _ _ (λ j l. ap (λ x. x * c n j) (sym (at_table 256 (mul_at 8380417 f g) j l))))

pub dsa_product : (f g : List ℕ) → ntt_inv (multiply_ntt (ntt f) (ntt g)) ≡ mul_p 8380417 f g
dsa_product f g =
    ap ntt_inv (dsa_ntt_of_product f g) ∙ dsa_inverse_of_ntt (mul_p 8380417 f g) (length-table 256 (mul_at 8380417 f g)) (below_table 8380417 256 (mul_at 8380417 f g) (λ k _. mod-lt _ (lit< tt)))
