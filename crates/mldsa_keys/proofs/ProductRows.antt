-- The rows of t, made step by step: s1 copied and transformed, the product, the sum.
use Rattle.std.proofs.Common.{◌≡◌, ℕ, ◌+◌, ◌*◌, List, length, ap, ◌∙◌}
use Rattle.standards.specs.Lists.{row_at, tables}
use Rattle.standards.specs.Ring.{add_p, sum_p}
use Rattle.standards.specs.MlDsaParts.{ntt, ntt_inv, multiply_ntt}
use Rattle.algebra.specs.RowArrays.{RowsAre}
use Rattle.algebra.proofs.PolySums.{sum_p-same}
use Rattle.algebra.proofs.Rows.{row_at_lem, length-tables}
use Rattle.mldsa_keys.specs.KeyRows.{t_row}

steps : (l k : ℕ) (a s1 s2 s w t : List (List ℕ)) → s ≡ tables l (λ i. ntt (row_at s1 i)) →
    w ≡ tables k (λ i. ntt_inv (sum_p 8380417 l (λ j. multiply_ntt (row_at a (l * i + j)) (row_at s j)))) →
    t ≡ tables k (λ i. add_p 8380417 (row_at w i) (row_at s2 i)) → RowsAre k (t_row l a s1 s2) t
steps l k a s1 s2 s w t es ew et i hi =
    ap (λ v. row_at v i) et ∙ (row_at_lem k _ i hi ∙ ap (λ x. add_p 8380417 x (row_at s2 i))
    (ap (λ v. row_at v i) ew ∙ (row_at_lem k _ i hi ∙ ap ntt_inv (sum_p-same 8380417 l _ _ (λ j hj. ap (multiply_ntt (row_at a (l * i + j))) (ap (λ v. row_at v j) es ∙ row_at_lem l _ j hj))))))

pub product_rows : (k : ℕ) (a s1 s2 copy s w t : List (List ℕ)) → k ≡ length s2 → copy ≡ s1 → s ≡ tables (length copy) (λ i. ntt (row_at copy i)) →
    w ≡ tables k (λ i. ntt_inv (sum_p 8380417 (length s) (λ j. multiply_ntt (row_at a (length s * i + j)) (row_at s j)))) →
    t ≡ tables (length w) (λ i. add_p 8380417 (row_at w i) (row_at s2 i)) → RowsAre (length s2) (t_row (length s1) a s1 s2) t
product_rows k a s1 s2 copy s w t lk ec es ew et =
    let of_s1 : s ≡ tables (length s1) (λ i. ntt (row_at s1 i)) = es ∙ ap (λ v. tables (length v) (λ i. ntt (row_at v i))) ec in
    let ls : length s ≡ length s1 = ap length of_s1 ∙ length-tables (length s1) _ in
    let lw : length w ≡ length s2 = ap length ew ∙ length-tables k _ ∙ lk in
    steps (length s1) (length s2) a s1 s2 s w t of_s1
    (ew ∙ ap (λ n. tables n (λ i. ntt_inv (sum_p 8380417 (length s) (λ j. multiply_ntt (row_at a (length s * i + j)) (row_at s j))))) lk ∙
    ap (λ l. tables (length s2) (λ i. ntt_inv (sum_p 8380417 l (λ j. multiply_ntt (row_at a (l * i + j)) (row_at s j))))) ls)
    (et ∙ ap (λ n. tables n (λ i. add_p 8380417 (row_at w i) (row_at s2 i))) lw)
