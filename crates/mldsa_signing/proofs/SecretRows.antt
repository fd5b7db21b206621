-- Rows of a secret key, unpacked and transformed.
use Rattle.std.proofs.Common.{◌≡◌, ℕ, ◌+◌, ◌-◌, ◌*◌, List, length, take, drop, ap, ◌∙◌, ap₂}
use Rattle.std.proofs.lemmas.List.{take_rest, drop-drop}
use Rattle.standards.specs.Lists.{tables, row_at}
use Rattle.standards.specs.MlDsaParts.{bit_unpack, ntt}
use Rattle.algebra.specs.RowArrays.{RowsBelow}
use Rattle.algebra.proofs.Rows.{row_at_lem, tables-same, length-tables}
use Rattle.mldsa_signing.specs.KnownRows.{KnownRows}

-- a step on each row of a table
pub each_row : (g : List ℕ → List ℕ) (n : ℕ) (f : ℕ → List ℕ) (u v : List (List ℕ)) → u ≡ tables n f → v ≡ tables (length u) (λ i. g (row_at u i)) → v ≡ tables n (λ i. g (f i))
each_row g n f u v was is =
    is ∙ (ap₂ (λ (m : ℕ) (x : List (List ℕ)). tables m (λ i. g (row_at x i))) (ap length was ∙ length-tables n f) was ∙ tables-same n _ _ (λ i l. ap g (row_at_lem n f i l)))

-- n rows of a key from place a on, of d bits a number
pub rows_from : (sk : List ℕ) (a : ℕ) (place : ℕ → ℕ) (n d b : ℕ) (v : List (List ℕ)) → ((i : ℕ) → a + 32 * d * i ≡ place i) →
    v ≡ tables n (λ i. ntt (bit_unpack d b (take (32 * d) (drop (32 * d * i) (take (length sk - a) (drop a sk)))))) → RowsBelow 8380417 n v →
    KnownRows n (λ i. ntt (bit_unpack d b (take (32 * d) (drop (place i) sk)))) v
rows_from sk a place n d b v at is small = record {
  long = ap length is ∙ length-tables n _;
  are = λ i l. ap (λ x. row_at x i) is ∙
      (row_at_lem n _ i l ∙ ap (λ x. ntt (bit_unpack d b (take (32 * d) x))) (ap (drop (32 * d * i)) (take_rest sk a) ∙ (drop-drop (32 * d * i) a sk ∙ ap (λ k. drop k sk) (at i))));
  below = small;
}
