-- ML-KEM: NTT and its inverse undo one another, and MultiplyNTTs is the product of the ring.
use Rattle.std.proofs.Common.{◌≡◌, ℕ, zero, suc, ◌+◌, ◌-◌, ◌*◌, ◌/◌, ◌%◌, ◌^◌, ◌<◌, T, List, length, sym, refl, ap, ◌∙◌, ap₂, mod-lt, mul_comm, arith, lit<, pow-add}
use Rattle.std.proofs.Math.Nat.{mod-mod, pow-succ'}
use Rattle.std.proofs.lemmas.Bool.{cond-true, cond-false, eq-eqb, ne_eqb}
use Rattle.standards.specs.Lists.{at, all_below, sum_to}
use Rattle.standards.specs.Ring.{mul_p, mul_at}
use Rattle.standards.specs.MlKemParts.{ntt, ntt_at, ntt_inv, ntt_inv_at, gamma, multiply_ntts, multiply_ntts_at}
use Rattle.algebra.proofs.Sums.{sum_same, sum_pairs, sum_zero, sum_add, sum_mul}
use Rattle.algebra.proofs.Congruence.{Same, ◌▸◌, back_of, same_is, same_mod, same_scale, same_add, same_mul, same_sum}
use Rattle.algebra.proofs.Transform.{forward_sum, inverse_sum, inverse_of_forward, forward_of_inverse, leaf_minus, power-same}
use Rattle.algebra.proofs.NegacyclicProduct.{product_sum, split_sum}
use Rattle.algebra.proofs.Tables.{at_table, is_remainders, table_same, length-table, below_table}

minus : Same 3329 (17 ^ 2 ^ 7 + 1) 0
minus = record { is = refl }

-- the spec's sums at place n, by leaf p = n / 2 and place i = n % 2 in it
pairs : {n : ℕ} → n ≡ 2 * (n / 2) + n % 2
pairs = omega arith

half_of : {n : ℕ} → n < 256 → n / 2 < 128
half_of h = omega arith

odd_of : (n : ℕ) → n % 2 < 2
odd_of n = omega arith

ntt-at : (f : List ℕ) (p i : ℕ) → p < 128 → i < 2 → Same 3329 (at (ntt f) (2 * p + i)) (forward_sum 3329 17 7 2 (at f) p i)
ntt-at f p i h s =
    same_is (at_table 256 (ntt_at f) (2 * p + i) (omega arith)) ▸ same_mod ▸
    same_is (ap₂ (λ x y. forward_sum 3329 17 7 2 (at f) x y) {x = (2 * p + i) / 2} {y = p} {u = (2 * p + i) % 2} {v = i} (omega arith) (omega arith))

ntt_inv-at : (f : List ℕ) (a i : ℕ) → a < 128 → i < 2 → Same 3329 (at (ntt_inv f) (2 * a + i)) (3303 * inverse_sum 3329 17 7 255 2 (at f) a i)
ntt_inv-at f a i h s =
    same_is (at_table 256 (ntt_inv_at f) (2 * a + i) (omega arith)) ▸ same_mod ▸ same_scale 3303 same_mod ▸
    same_is (ap₂ (λ x y. 3303 * inverse_sum 3329 17 7 255 2 (at f) x y) {x = (2 * a + i) / 2} {y = a} {u = (2 * a + i) % 2} {v = i} (omega arith) (omega arith))

pub kem_inverse_of_ntt : (f : List ℕ) → length f ≡ 256 → T (all_below 3329 f) → ntt_inv (ntt f) ≡ f
kem_inverse_of_ntt f l b =
    is_remainders 3329 256 _ f l b
    (λ n h. same_scale 3303 same_mod ▸ inverse_of_forward 3329 17 7 255 minus refl 2 3303 (record { is = refl }) (at f) (at (ntt f)) (ntt-at f) (n / 2) (n % 2) (half_of h) (odd_of n) ▸ same_is (ap (at f) (sym pairs)))

pub kem_ntt_of_inverse : (f : List ℕ) → length f ≡ 256 → T (all_below 3329 f) → ntt (ntt_inv f) ≡ f
kem_ntt_of_inverse f l b =
    is_remainders 3329 256 _ f l b
    (λ n h. forward_of_inverse 3329 17 7 255 minus refl 2 3303 (record { is = refl }) (at (ntt_inv f)) (at f) 1665 (record { is = refl }) (ntt_inv-at f) (n / 2) (n % 2) (half_of h) (odd_of n) ▸ same_is (ap (at f) (sym pairs)))

-- at a leaf with root z, x^n is even z n + x odd z n
even : ℕ → ℕ → ℕ
even z n = (1 - n % 2) * z ^ (n / 2)

odd : ℕ → ℕ → ℕ
odd z n = n % 2 * z ^ (n / 2)

even_at : (z a u : ℕ) → u < 2 → even z (2 * a + u) ≡ (1 - u) * z ^ a
unfolding even
even_at z a u h = ap₂ (λ x y. (1 - x) * z ^ y) {x = (2 * a + u) % 2} {y = u} {u = (2 * a + u) / 2} {v = a} (omega arith) (omega arith)

odd_at : (z a u : ℕ) → u < 2 → odd z (2 * a + u) ≡ u * z ^ a
unfolding odd
odd_at z a u h = ap₂ (λ x y. x * z ^ y) {x = (2 * a + u) % 2} {y = u} {u = (2 * a + u) / 2} {v = a} (omega arith) (omega arith)

even_sum : (f : ℕ → ℕ) (z : ℕ) → sum_to 256 (λ n. f n * even z n) ≡ sum_to 128 (λ j. f (2 * j + 0) * z ^ j)
even_sum f z =
    sum_pairs 128 (λ n. f n * even z n) ∙
    (ap₂ ◌+◌ (sum_same 128 _ (λ j. f (2 * j + 0) * z ^ j) (λ j _. ap (λ x. f x * even z x) {y = 2 * j + 0} (omega arith) ∙ (ap (λ x. f (2 * j + 0) * x) (even_at z j 0 (lit< tt)) ∙ omega arith)))
    (sum_same 128 _ (λ j. 0) (λ j _. ap (λ x. f (2 * j + 1) * x) (even_at z j 1 (lit< tt)) ∙ omega arith) ∙ sum_zero 128) ∙ omega arith)

odd_sum : (f : ℕ → ℕ) (z : ℕ) → sum_to 256 (λ n. f n * odd z n) ≡ sum_to 128 (λ j. f (2 * j + 1) * z ^ j)
odd_sum f z =
    sum_pairs 128 (λ n. f n * odd z n) ∙
    (ap₂ ◌+◌ (sum_same 128 _ (λ j. 0) (λ j _. ap (λ x. f x * odd z x) {y = 2 * j + 0} (omega arith) ∙ (ap (λ x. f (2 * j + 0) * x) (odd_at z j 0 (lit< tt)) ∙ omega arith)) ∙ sum_zero 128)
    (sum_same 128 _ (λ j. f (2 * j + 1) * z ^ j) (λ j _. ap (λ x. f (2 * j + 1) * x) (odd_at z j 1 (lit< tt)) ∙ omega arith)) ∙ omega arith)

-- x^i x^m, by the parity of i and of m
both_at : (z a b u v : ℕ) → u < 2 → v < 2 →
    (even z (2 * a + u + (2 * b + v)) ≡ (1 - u) * z ^ a * ((1 - v) * z ^ b) + z * (u * z ^ a * (v * z ^ b))) ×
    (odd z (2 * a + u + (2 * b + v)) ≡ (1 - u) * z ^ a * (v * z ^ b) + u * z ^ a * ((1 - v) * z ^ b))
both_at z a b zero zero _ _ = (
  ap (even z) {y = 2 * (a + b) + 0} (omega arith) ∙ (even_at z (a + b) 0 (lit< tt) ∙ omega (arith, pow-add z a b)),
  ap (odd z) {y = 2 * (a + b) + 0} (omega arith) ∙ (odd_at z (a + b) 0 (lit< tt) ∙ omega arith),
)
both_at z a b zero (suc zero) _ _ = (
  ap (even z) {y = 2 * (a + b) + 1} (omega arith) ∙ (even_at z (a + b) 1 (lit< tt) ∙ omega arith),
  ap (odd z) {y = 2 * (a + b) + 1} (omega arith) ∙ (odd_at z (a + b) 1 (lit< tt) ∙ omega (arith, pow-add z a b)),
)
both_at z a b (suc zero) zero _ _ = (
  ap (even z) {y = 2 * (a + b) + 1} (omega arith) ∙ (even_at z (a + b) 1 (lit< tt) ∙ omega arith),
  ap (odd z) {y = 2 * (a + b) + 1} (omega arith) ∙ (odd_at z (a + b) 1 (lit< tt) ∙ omega (arith, pow-add z a b)),
)
both_at z a b (suc zero) (suc zero) _ _ = (
  ap (even z) {y = 2 * suc (a + b) + 0} (omega arith) ∙ (even_at z (suc (a + b)) 0 (lit< tt) ∙ omega (arith, pow-succ' z (a + b), ap (λ x. z * x) (pow-add z a b))),
  ap (odd z) {y = 2 * suc (a + b) + 0} (omega arith) ∙ (odd_at z (suc (a + b)) 0 (lit< tt) ∙ omega arith),
)
both_at z a b zero (suc (suc v)) _ h = absurd (omega arith)
both_at z a b (suc zero) (suc (suc v)) _ h = absurd (omega arith)
both_at z a b (suc (suc u)) v h _ = absurd (omega arith)

even_add : (z i m : ℕ) → even z (i + m) ≡ even z i * even z m + z * (odd z i * odd z m)
unfolding even odd
even_add z i m = ap (even z) {y = 2 * (i / 2) + i % 2 + (2 * (m / 2) + m % 2)} (omega arith) ∙ (both_at z (i / 2) (m / 2) (i % 2) (m % 2) (odd_of i) (odd_of m)).0

odd_add : (z i m : ℕ) → odd z (i + m) ≡ even z i * odd z m + odd z i * even z m
unfolding even odd
odd_add z i m = ap (odd z) {y = 2 * (i / 2) + i % 2 + (2 * (m / 2) + m % 2)} (omega arith) ∙ (both_at z (i / 2) (m / 2) (i % 2) (m % 2) (odd_of i) (odd_of m)).1

turned : (z : ℕ) → Same 3329 (z ^ 128 + 1) 0 → (n : ℕ) → Same 3329 (even z (n + 256) + even z n) 0 × Same 3329 (odd z (n + 256) + odd z n) 0
unfolding even odd
turned z h n = (go (1 - n % 2) (λ x. 1 - x), go (n % 2) (λ x. x))
  where
    far : z ^ ((n + 256) / 2) ≡ z ^ (n / 2) * z ^ 128
    far = ap (λ x. z ^ x) {y = n / 2 + 128} (omega arith) ∙ pow-add z (n / 2) 128

    go : (u : ℕ) (t : ℕ → ℕ) → Same 3329 (t ((n + 256) % 2) * z ^ ((n + 256) / 2) + t (n % 2) * z ^ (n / 2)) 0
    go u t =
        same_is {b = t (n % 2) * z ^ (n / 2) * (z ^ 128 + 1)} (ap₂ (λ x y. t x * y + t (n % 2) * z ^ (n / 2)) {x = (n + 256) % 2} {y = n % 2} (omega arith) far ∙ omega arith) ▸
        same_scale (t (n % 2) * z ^ (n / 2)) h ▸ same_is (omega arith)

pair_sum : (N z : ℕ) (f g : ℕ → ℕ) (c d : ℕ → ℕ → ℕ) →
    sum_to N (λ i. f i * sum_to N (λ m. g m * (c i m + z * d i m))) ≡ sum_to N (λ i. f i * sum_to N (λ m. g m * c i m)) + z * sum_to N (λ i. f i * sum_to N (λ m. g m * d i m))
pair_sum N z f g c d =
    sum_same N _ (λ i. f i * sum_to N (λ m. g m * c i m) + z * (f i * sum_to N (λ m. g m * d i m)))
    (λ i _. ap (λ x. f i * x) (sum_same N _ (λ m. g m * c i m + z * (g m * d i m)) (λ m _. omega arith) ∙ (sum_add N _ _ ∙ ap (λ x. sum_to N (λ m. g m * c i m) + x) (sum_mul N z _))) ∙ omega arith) ∙
    (sum_add N _ _ ∙ ap (λ x. sum_to N (λ i. f i * sum_to N (λ m. g m * c i m)) + x) (sum_mul N z _))

-- the values at leaf p
low : (f : List ℕ) (p : ℕ) → p < 128 → Same 3329 (at (ntt f) (2 * p + 0)) (sum_to 256 (λ n. at f n * even (gamma p) n))
low f p h = ntt-at f p 0 h (lit< tt) ▸ same_sum 128 _ _ (λ j _. same_scale (at f (2 * j + 0)) (power-same 3329 j (same_is refl))) ▸ same_is (sym (even_sum (at f) (gamma p)))

high : (f : List ℕ) (p : ℕ) → p < 128 → Same 3329 (at (ntt f) (2 * p + 1)) (sum_to 256 (λ n. at f n * odd (gamma p) n))
high f p h = ntt-at f p 1 h (lit< tt) ▸ same_sum 128 _ _ (λ j _. same_scale (at f (2 * j + 1)) (power-same 3329 j (same_is refl))) ▸ same_is (sym (odd_sum (at f) (gamma p)))

product_at : (f g : List ℕ) (c : ℕ → ℕ) → ((n : ℕ) → Same 3329 (c (n + 256) + c n) 0) →
    Same 3329 (sum_to 256 (λ n. at (mul_p 3329 f g) n * c n)) (sum_to 256 (λ i. at f i * sum_to 256 (λ m. at g m * c (i + m))))
product_at f g c h = same_is (sum_same 256 _ _ (λ j l. ap (λ x. x * c j) (at_table 256 (mul_at 3329 f g) j l))) ▸ product_sum 3329 256 (lit< tt) c h (at f) (at g)

even_times : (f g : List ℕ) (p : ℕ) → p < 128 →
    Same 3329 (at (ntt f) (2 * p + 0) * at (ntt g) (2 * p + 0) + gamma p * (at (ntt f) (2 * p + 1) * at (ntt g) (2 * p + 1))) (at (ntt (mul_p 3329 f g)) (2 * p + 0))
even_times f g p h =
    same_add (same_mul (low f p h) (low g p h)) (same_scale z (same_mul (high f p h) (high g p h))) ▸
    same_is
    (ap₂ (λ x y. x + z * y) (sym (split_sum 256 (at f) (at g) (even z) (even z))) (sym (split_sum 256 (at f) (at g) (odd z) (odd z))) ∙
    (sym (pair_sum 256 z (at f) (at g) (λ i m. even z i * even z m) (λ i m. odd z i * odd z m)) ∙
    sum_same 256 _ _ (λ i _. ap (λ x. at f i * x) (sum_same 256 _ _ (λ m _. ap (λ x. at g m * x) (sym (even_add z i m))))))) ▸
    back_of (product_at f g (even z) (λ n. (turned z (leaf_minus 3329 17 7 255 minus refl p) n).0)) ▸ back_of (low (mul_p 3329 f g) p h)
  where
    z : ℕ
    z = gamma p

odd_times : (f g : List ℕ) (p : ℕ) → p < 128 →
    Same 3329 (at (ntt f) (2 * p + 0) * at (ntt g) (2 * p + 1) + 1 * (at (ntt f) (2 * p + 1) * at (ntt g) (2 * p + 0))) (at (ntt (mul_p 3329 f g)) (2 * p + 1))
odd_times f g p h =
    same_add (same_mul (low f p h) (high g p h)) (same_scale 1 (same_mul (high f p h) (low g p h))) ▸
    same_is
    (ap₂ (λ x y. x + 1 * y) (sym (split_sum 256 (at f) (at g) (even z) (odd z))) (sym (split_sum 256 (at f) (at g) (odd z) (even z))) ∙
    (sym (pair_sum 256 1 (at f) (at g) (λ i m. even z i * odd z m) (λ i m. odd z i * even z m)) ∙
    sum_same 256 _ _ (λ i _. ap (λ x. at f i * x) (sum_same 256 _ _ (λ m _. ap (λ x. at g m * x) (omega (arith, odd_add z i m))))))) ▸
    back_of (product_at f g (odd z) (λ n. (turned z (leaf_minus 3329 17 7 255 minus refl p) n).1)) ▸ back_of (high (mul_p 3329 f g) p h)
  where
    z : ℕ
    z = gamma p

pub kem_ntt_of_product : (f g : List ℕ) → multiply_ntts (ntt f) (ntt g) ≡ ntt (mul_p 3329 f g)
kem_ntt_of_product f g = table_same 256 _ _ (λ n h. by_place n h (n % 2) refl (odd_of n))
  where
    F : List ℕ
    F = ntt f

    G : List ℕ
    G = ntt g

    ends : (n : ℕ) → n < 256 → (u : ℕ) → n % 2 ≡ u → at (ntt (mul_p 3329 f g)) (2 * (n / 2) + u) % 3329 ≡ ntt_at (mul_p 3329 f g) n
    ends n h u e = ap (λ x. at (ntt (mul_p 3329 f g)) x % 3329) {y = n} (omega arith) ∙ (ap (λ x. x % 3329) (at_table 256 (ntt_at (mul_p 3329 f g)) n h) ∙ mod-mod _ 3329)

    by_place : (n : ℕ) → n < 256 → (u : ℕ) → n % 2 ≡ u → u < 2 → multiply_ntts_at F G n ≡ ntt_at (mul_p 3329 f g) n
    by_place n h zero e l =
        cond-true _ _ _ (eq-eqb (n % 2) 0 e) ∙
        ((same_add (same_is (ap (λ x. at F x * at G x) {y = 2 * (n / 2) + 0} (omega arith))) (same_is (mul_comm _ (gamma (n / 2))) ▸ same_scale (gamma (n / 2)) same_mod) ▸ even_times f g (n / 2) (half_of h)).is ∙ ends n h 0 e)
    by_place n h (suc zero) e l =
        cond-false _ _ _ (ne_eqb (n % 2) 0 (λ z. omega arith)) ∙
        ((same_is (ap (λ x. at F x * at G (2 * (n / 2) + 1) + at F (2 * (n / 2) + 1) * at G x) {y = 2 * (n / 2) + 0} (omega arith) ∙ omega arith) ▸ odd_times f g (n / 2) (half_of h)).is ∙ ends n h 1 e)
    by_place n h (suc (suc u)) e l = absurd (omega arith)

pub kem_product : (f g : List ℕ) → ntt_inv (multiply_ntts (ntt f) (ntt g)) ≡ mul_p 3329 f g
kem_product f g = ap ntt_inv (kem_ntt_of_product f g) ∙ kem_inverse_of_ntt (mul_p 3329 f g) (length-table 256 (mul_at 3329 f g)) (below_table 3329 256 (mul_at 3329 f g) (λ k _. mod-lt _ (lit< tt)))
