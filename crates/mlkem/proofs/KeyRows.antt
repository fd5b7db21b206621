-- What the rows that the code holds say of the keys.
use Rattle.std.proofs.Common.{◌≡◌, ℕ, ◌+◌, ◌*◌, ◌<◌, List, ◌++◌, ap, ◌∙◌, ap₂}
use Rattle.standards.specs.Lists.{row_at, joined, tables}
use Rattle.standards.specs.Bytes.{pack}
use Rattle.standards.specs.Ring.{add_p}
use Rattle.standards.specs.Hashes.{Hashes}
use Rattle.standards.specs.MlKemParts.{KemSet, q, ntt}
use Rattle.standards.specs.MlKem.{matrix, small, rho_of, sigma_of, s_hat, t_hat, ek_of, dk_of}
use Rattle.algebra.specs.RowArrays.{RowsAre}
use Rattle.algebra.proofs.RowArrays.{joined_same}
use Rattle.kpke.specs.Matrix.{entry_at}
use Rattle.kpke.proofs.Entries.{products, along, entry_along}
use Rattle.mlkem.specs.PublicRows.{t_row}

module _ (h : Hashes) (p : KemSet) (d rho sigma : List ℕ) (a s t : List (List ℕ)) (public : rho ≡ rho_of h p d) (secret : sigma ≡ sigma_of h p d)
    (ra : RowsAre (p.k * p.k) (entry_at h p.k rho) a)
    (rs : RowsAre p.k (λ j. ntt (small h p.eta1 sigma j)) s)
    (rt : RowsAre p.k (t_row h p.k p.eta1 sigma a s) t) where
  s_row : (i : ℕ) → i < p.k → row_at s i ≡ s_hat h p d i
  s_row i l = rs i l ∙ ap (λ x. ntt (small h p.eta1 x i)) secret

  t_row_lem : (i : ℕ) → i < p.k → row_at t i ≡ t_hat h p d i
  t_row_lem i l =
      rt i l ∙
      ap₂ (add_p q)
      (products p.k (p.k * i) 1 a s (λ j. matrix h (rho_of h p d) i j) (s_hat h p d)
      (λ j m. ra (p.k * i + 1 * j) (along p.k i j l m) ∙ (entry_along h p.k rho i j l m ∙ ap (λ x. matrix h x i j) public)) s_row)
      (ap (λ x. ntt (small h p.eta1 x (p.k + i))) secret)

  pub ek_is : (ek : List ℕ) → ek ≡ joined (tables p.k (λ i. pack 12 (row_at t i))) ++ rho → ek ≡ ek_of h p d
  ek_is ek e = e ∙ ap₂ (λ x y. x ++ y) (joined_same p.k _ _ (λ i l. ap (pack 12) (t_row_lem i l))) public

  pub dk_is : (ek dk z : List ℕ) → ek ≡ ek_of h p d → dk ≡ joined (tables p.k (λ i. pack 12 (row_at s i))) ++ (ek ++ (h.sha3_256 ek ++ z)) → dk ≡ dk_of h p d z
  dk_is ek dk z r e =
      e ∙ ap₂ (λ x y. x ++ (y ++ (h.sha3_256 y ++ z))) (joined_same p.k _ _ (λ i l. ap (pack 12) (s_row i l))) r
