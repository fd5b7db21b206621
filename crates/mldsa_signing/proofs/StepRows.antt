-- What the code's rows say of the steps of an attempt.
use Rattle.std.proofs.Common.{◌≡◌, ℕ, ◌+◌, ◌*◌, ◌<◌, List, length, ap, ◌∙◌, ap₂}
use Rattle.standards.specs.Lists.{tables, row_at}
use Rattle.standards.specs.Ring.{add_p, sub_p, sum_p}
use Rattle.standards.specs.Hashes.{Hashes}
use Rattle.standards.specs.MlDsaParts.{DsaSet, ntt, ntt_inv, multiply_ntt}
use Rattle.algebra.proofs.Rows.{tables-same, length-tables}
use Rattle.mldsa_laws.specs.Steps.{w_step, z_step, v_step, ct_step}
use Rattle.mldsa_laws.proofs.AttemptSteps.{commit_is}
use Rattle.mldsa_signing.specs.KnownRows.{MatrixRows, S1Rows, S2Rows, T0Rows}

-- rows by a function that is another one below n
rows_are_same : (n m : ℕ) (f g : ℕ → List ℕ) (v : List (List ℕ)) → v ≡ tables m f → m ≡ n → ((i : ℕ) → i < n → f i ≡ g i) → v ≡ tables n g
rows_are_same n m f g v is long h = is ∙ (ap (λ k. tables k f) long ∙ tables-same n f g h)

module _ (p : DsaSet) (sk : List ℕ) (cn : List ℕ) where
  pub z_is : (y s z : List (List ℕ)) → S1Rows p sk s → length y ≡ p.l → z ≡ tables (length y) (λ i. add_p 8380417 (row_at y i) (ntt_inv (multiply_ntt cn (row_at s i)))) → z ≡ z_step p sk y cn
  unfolding z_step
  z_is y s z known long is = rows_are_same p.l (length y) _ _ z is long (λ i l. ap (λ x. add_p 8380417 (row_at y i) (ntt_inv (multiply_ntt cn x))) (known.are i l))

  pub v_is : (w s v : List (List ℕ)) → S2Rows p sk s → length w ≡ p.k → v ≡ tables (length w) (λ i. sub_p 8380417 (row_at w i) (ntt_inv (multiply_ntt cn (row_at s i)))) → v ≡ v_step p sk w cn
  unfolding v_step
  v_is w s v known long is = rows_are_same p.k (length w) _ _ v is long (λ i l. ap (λ x. sub_p 8380417 (row_at w i) (ntt_inv (multiply_ntt cn x))) (known.are i l))

  pub ct_is : (t ct : List (List ℕ)) (n : ℕ) → T0Rows p sk t → n ≡ p.k → ct ≡ tables n (λ i. ntt_inv (multiply_ntt cn (row_at t i))) → ct ≡ ct_step p sk cn
  unfolding ct_step
  ct_is t ct n known long is = rows_are_same p.k n _ _ ct is long (λ i l. ap (λ x. ntt_inv (multiply_ntt cn x)) (known.are i l))

-- w, of a copy of y that is transformed
pub w_is : (h : Hashes) (p : DsaSet) (sk : List ℕ) (a y copy yn w : List (List ℕ)) (k : ℕ) → MatrixRows h p sk a → length y ≡ p.l → copy ≡ y → yn ≡ tables (length copy) (λ i. ntt (row_at copy i)) → k ≡ p.k →
    w ≡ tables k (λ i. ntt_inv (sum_p 8380417 (length yn) (λ j. multiply_ntt (row_at a (length yn * i + j)) (row_at yn j)))) → w ≡ w_step h p sk y
w_is h p sk a y copy yn w k known long copied transformed rows is =
    let product = λ (n l : ℕ) (s : List (List ℕ)). tables n (λ i. ntt_inv (sum_p 8380417 l (λ j. multiply_ntt (row_at a (l * i + j)) (row_at s j)))) in
    let e : yn ≡ tables p.l (λ i. ntt (row_at y i)) = transformed ∙ ap₂ (λ (n : ℕ) (x : List (List ℕ)). tables n (λ i. ntt (row_at x i))) (ap length copied ∙ long) copied in
    is ∙ (ap₂ (λ n l. product n l yn) rows (ap length e ∙ length-tables p.l _) ∙ (ap (product p.k p.l) e ∙ commit_is h p sk a y known.are))
