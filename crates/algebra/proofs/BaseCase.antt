-- MultiplyNTTs pair by pair.
use Rattle.std.proofs.Common.{◌≡◌, ℕ, ◌+◌, ◌*◌, ◌/◌, ◌%◌, ◌<◌, cond, eqb, List, sym, ap, ◌∙◌, ap₂, mod-lt, arith, lit<}
use Rattle.std.proofs.lemmas.Bool.{cond-true, cond-false, cond_both, eq-eqb, ne_eqb}
use Rattle.standards.specs.Lists.{table, at}
use Rattle.standards.specs.Bytes.{bit_rev}
use Rattle.standards.specs.MlKemParts.{gamma, multiply_ntts_at}
use Rattle.algebra.proofs.Tables.{at_table}
use Rattle.algebra.proofs.Congruence.{power_is}
use Rattle.algebra.proofs.Words.{Filled}

pub gamma-at : (zs : List ℕ) → zs ≡ table 128 gamma → (i : ℕ) → i < 128 → at zs i ≡ gamma i
gamma-at zs e i h = ap (λ x. at x i) e ∙ at_table 128 gamma i h

pub gamma_below : (zs : List ℕ) → zs ≡ table 128 gamma → (i : ℕ) → i < 128 → at zs i < 3329
gamma_below zs e i h = rw (gamma-at zs e i h, power_is 3329 17 (2 * bit_rev 7 i + 1)) (mod-lt _ (lit< tt))

-- the two numbers of pair i
pub pair_low : (f g zs : List ℕ) → zs ≡ table 128 gamma → (i : ℕ) → i < 128 →
    (at f (2 * i) * at g (2 * i) + (at f (2 * i + 1) * at g (2 * i + 1)) % 3329 * at zs i) % 3329 ≡ multiply_ntts_at f g (2 * i)
pair_low f g zs e i h =
    ap (λ x. (at f (2 * i) * at g (2 * i) + (at f (2 * i + 1) * at g (2 * i + 1)) % 3329 * x) % 3329) (gamma-at zs e i h) ∙ sym
    (cond-true _ _ _ (eq-eqb (2 * i % 2) 0 (omega arith)) ∙ ap (λ n. (at f (2 * n) * at g (2 * n) + (at f (2 * n + 1) * at g (2 * n + 1)) % 3329 * gamma n) % 3329) {x = 2 * i / 2} {y = i} (omega arith))

pub pair_high : (f g : List ℕ) (i : ℕ) → (at f (2 * i) * at g (2 * i + 1) + at f (2 * i + 1) * at g (2 * i)) % 3329 ≡ multiply_ntts_at f g (2 * i + 1)
pair_high f g i =
    sym (cond-false _ _ _ (ne_eqb ((2 * i + 1) % 2) 0 (λ x. omega arith)) ∙ ap (λ n. (at f (2 * n) * at g (2 * n + 1) + at f (2 * n + 1) * at g (2 * n)) % 3329) {x = (2 * i + 1) / 2} {y = i} (omega arith))

-- where two polynomials agree in the pair of n, their products do
pub pair_same : (f F g : List ℕ) (n : ℕ) → at F (2 * (n / 2)) ≡ at f (2 * (n / 2)) → at F (2 * (n / 2) + 1) ≡ at f (2 * (n / 2) + 1) → multiply_ntts_at F g n ≡ multiply_ntts_at f g n
pair_same f F g n a b =
    ap₂ (λ x y. cond (eqb (n % 2) 0) ((x * at g (2 * (n / 2)) + (y * at g (2 * (n / 2) + 1)) % 3329 * gamma (n / 2)) % 3329) ((x * at g (2 * (n / 2) + 1) + y * at g (2 * (n / 2))) % 3329)) a b

pub pairs_below : (f g : List ℕ) (n : ℕ) → multiply_ntts_at f g n < 3329
pairs_below f g n = cond_both (eqb (n % 2) 0) _ _ (λ x. x < 3329) (λ _. mod-lt _ (lit< tt)) (λ _. mod-lt _ (lit< tt))

-- a loop that has put the products of the first i pairs into the place of f
module _ (f F g : List ℕ) (i : ℕ) (w : Filled (multiply_ntts_at f g) f (2 * i) F) (n : ℕ) (h : n / 2 ≡ i) where
  pub pair_rest : multiply_ntts_at F g n ≡ multiply_ntts_at f g n
  pair_rest = pair_same f F g n (w.rest (2 * (n / 2)) (omega arith)) (w.rest (2 * (n / 2) + 1) (omega arith))
