-- NTT of monomials: 1 is 1 at every leaf, and x^255 times x is -1.
use Rattle.std.proofs.Common.{◌≡◌, ℕ, ◌+◌, ◌-◌, ◌*◌, ◌/◌, ◌%◌, ◌<◌, ◌≤◌, Bool, true, false, cond, leb, ◌⊎◌, List, length, set, sym, ap, ◌∙◌, ap₂, inl, inr, arith, lit<}
use Rattle.std.proofs.lemmas.List.{length-set, get_or-set_same, get_or-set_other}
use Rattle.std.proofs.lemmas.Bool.{cases_eq, cases_lt, cond-true, cond-false, le-leb, lt-leb}
use Rattle.standards.specs.Lists.{at}
use Rattle.standards.specs.Ring.{power, mul_at, zero_p}
use Rattle.standards.specs.MlKemParts.{ntt, ntt_at, gamma}
use Rattle.standards.specs.Cases.{TransformCases}
use Rattle.algebra.proofs.Sums.{sum_only}
use Rattle.algebra.proofs.Tables.{length-table, is_table, table_same, at_noughts}
use Rattle.algebra.proofs.KemTransform.{kem_ntt_of_product}

-- v x^i
abbrev monomial : ℕ → ℕ → List ℕ
monomial i v = set zero_p i v

long : (i v : ℕ) → length (monomial i v) ≡ 256
long i v = length-set zero_p i v ∙ length-table 256 (λ i. 0)

monomial_at : (i v : ℕ) → i < 256 → at (monomial i v) i ≡ v
monomial_at i v h = get_or-set_same zero_p i v 0 (omega (arith, length-table 256 (λ i. 0)))

monomial_off : (i v k : ℕ) → (k ≡ i → ⊥) → at (monomial i v) k ≡ 0
monomial_off i v k ne = get_or-set_other zero_p i k v 0 ne ∙ at_noughts 256 k

-- ---- the transform of 1
one_at : (n : ℕ) → ntt_at (monomial 0 1) n ≡ 1 - n % 2
unfolding power
one_at n = ap (λ x. x % 3329) (sum_only 128 0 _ (lit< tt) (λ j ne. ap (λ x. x * power 3329 (gamma (n / 2)) j) (monomial_off 0 1 (2 * j + n % 2) (λ e. ne (omega arith))) ∙ omega arith)) ∙ first (cases_eq (n % 2) 0)
  where
    first : (n % 2 ≡ 0) ⊎ (n % 2 ≡ 0 → ⊥) → (at (monomial 0 1) (2 * 0 + n % 2) * (1 % 3329)) % 3329 ≡ 1 - n % 2
    first (inl e) = ap (λ x. (at (monomial 0 1) (2 * 0 + x) * (1 % 3329)) % 3329) e ∙ (ap (λ x. (x * (1 % 3329)) % 3329) (monomial_at 0 1 (lit< tt)) ∙ omega arith)
    first (inr ne) = ap (λ x. (x * (1 % 3329)) % 3329) (monomial_off 0 1 (2 * 0 + n % 2) (λ e. omega arith)) ∙ omega arith

-- ---- x^255 times x
product_at : (n : ℕ) → n < 256 → at (monomial 0 3328) n ≡ mul_at 3329 (monomial 255 1) (monomial 1 1) n
product_at n h = sym (ap (λ x. x % 3329) (sum_only 256 255 _ (lit< tt) (λ j ne. off j (monomial_off 255 1 j ne))) ∙ last (cases_lt n 255) (cases_eq n 0))
  where
    off : (j : ℕ) → at (monomial 255 1) j ≡ 0 → cond (leb j n) (at (monomial 255 1) j * at (monomial 1 1) (n - j)) (at (monomial 255 1) j * (3329 - at (monomial 1 1) ((n + 256) - j) % 3329)) ≡ 0
    off j e = ap (λ x. cond (leb j n) (x * at (monomial 1 1) (n - j)) (x * (3329 - at (monomial 1 1) ((n + 256) - j) % 3329))) e ∙ neither (leb j n)
      where
        neither : (b : Bool) → cond b (0 * at (monomial 1 1) (n - j)) (0 * (3329 - at (monomial 1 1) ((n + 256) - j) % 3329)) ≡ 0
        neither true = omega arith
        neither false = omega arith

    last : (n < 255) ⊎ (255 ≤ n) → (n ≡ 0) ⊎ (n ≡ 0 → ⊥) →
        cond (leb 255 n) (at (monomial 255 1) 255 * at (monomial 1 1) (n - 255)) (at (monomial 255 1) 255 * (3329 - at (monomial 1 1) ((n + 256) - 255) % 3329)) % 3329 ≡ at (monomial 0 3328) n
    last (inl l) z = ap (λ x. x % 3329) (cond-false _ _ _ (lt-leb 255 n l) ∙ ap₂ (λ x y. x * (3329 - at (monomial 1 1) y % 3329)) {u = (n + 256) - 255} {v = n + 1} (monomial_at 255 1 (lit< tt)) (omega arith)) ∙ wrapped z
      where
        wrapped : (n ≡ 0) ⊎ (n ≡ 0 → ⊥) → (1 * (3329 - at (monomial 1 1) (n + 1) % 3329)) % 3329 ≡ at (monomial 0 3328) n
        wrapped (inl e) = ap (λ k. (1 * (3329 - at (monomial 1 1) (k + 1) % 3329)) % 3329) e ∙ (ap (λ x. (1 * (3329 - x % 3329)) % 3329) (monomial_at 1 1 (lit< tt)) ∙ sym (ap (at (monomial 0 3328)) e ∙ monomial_at 0 3328 (lit< tt)))
        wrapped (inr ne) = ap (λ x. (1 * (3329 - x % 3329)) % 3329) (monomial_off 1 1 (n + 1) (λ e. omega (arith, ne))) ∙ sym (monomial_off 0 3328 n ne)
    last (inr l) z =
        ap (λ x. x % 3329) {y = 0} (cond-true _ _ _ (le-leb 255 n l) ∙ (ap (λ y. at (monomial 255 1) 255 * y) (monomial_off 1 1 (n - 255) (λ e. omega arith)) ∙ omega arith)) ∙ sym (monomial_off 0 3328 n (λ e. omega arith))

pub transform_cases : TransformCases
transform_cases = (
  table_same 256 _ _ (λ n _. one_at n),
  kem_ntt_of_product (monomial 255 1) (monomial 1 1) ∙ ap ntt (sym (is_table 256 (mul_at 3329 (monomial 255 1) (monomial 1 1)) (monomial 0 3328) (long 0 3328) product_at)),
)
