-- Entries of the matrix along a row and down a column, and sums of products of rows that are known.
use Rattle.std.proofs.Common.{◌≡◌, ℕ, ◌+◌, ◌*◌, ◌<◌, List, ap, ◌∙◌, ap₂, arith}
use Rattle.std.proofs.lemmas.Nat.{mul-add-lt, mod-mul-add, div-mul-add}
use Rattle.standards.specs.Lists.{row_at}
use Rattle.standards.specs.Ring.{sum_p}
use Rattle.standards.specs.Hashes.{Hashes}
use Rattle.standards.specs.MlKemParts.{multiply_ntts}
use Rattle.standards.specs.MlKem.{matrix}
use Rattle.algebra.specs.RowArrays.{RowsAre}
use Rattle.algebra.proofs.PolySums.{sum_p-same}
use Rattle.kpke.specs.Matrix.{entry_at}

pub along : (k i j : ℕ) → i < k → j < k → k * i + 1 * j < k * k
along k i j h l = omega (arith, mul-add-lt i k j k h l)

pub down : (k i j : ℕ) → i < k → j < k → i + k * j < k * k
down k i j h l = omega (arith, mul-add-lt j k i k l h)

pub entry_along : (h : Hashes) (k : ℕ) (rho : List ℕ) (i j : ℕ) → i < k → j < k → entry_at h k rho (k * i + 1 * j) ≡ matrix h rho i j
entry_along h k rho i j hi hj =
    let e : k * i + 1 * j ≡ i * k + j = omega arith in
    ap (entry_at h k rho) e ∙ ap₂ (matrix h rho) (div-mul-add i k j hj) (mod-mul-add i k j hj)

pub entry_down : (h : Hashes) (k : ℕ) (rho : List ℕ) (i j : ℕ) → i < k → j < k → entry_at h k rho (i + k * j) ≡ matrix h rho j i
entry_down h k rho i j hi hj =
    let e : i + k * j ≡ j * k + i = omega arith in
    ap (entry_at h k rho) e ∙ ap₂ (matrix h rho) (div-mul-add j k i hi) (mod-mul-add j k i hi)

pub products : (k first step : ℕ) (a s : List (List ℕ)) (f g : ℕ → List ℕ) → ((j : ℕ) → j < k → row_at a (first + step * j) ≡ f j) → RowsAre k g s →
    sum_p 3329 k (λ j. multiply_ntts (row_at a (first + step * j)) (row_at s j)) ≡ sum_p 3329 k (λ j. multiply_ntts (f j) (g j))
products k first step a s f g h l = sum_p-same 3329 k _ _ (λ j lt. ap₂ multiply_ntts (h j lt) (l j lt))
