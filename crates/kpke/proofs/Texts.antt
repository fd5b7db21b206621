-- What the rows that the code holds say of ciphertexts.
use Rattle.std.proofs.Common.{◌≡◌, ℕ, ◌+◌, ◌*◌, ◌<◌, List, ◌++◌, ap, ◌∙◌, ap₂, arith}
use Rattle.standards.specs.Lists.{row_at, joined, tables}
use Rattle.standards.specs.Bytes.{pack}
use Rattle.standards.specs.Ring.{add_p, sub_p, sum_p}
use Rattle.standards.specs.Hashes.{Hashes}
use Rattle.standards.specs.MlKemParts.{KemSet, q, ntt, ntt_inv, multiply_ntts, compress_p}
use Rattle.standards.specs.MlKem.{matrix, small, mu, ek_rho, key_row, y_hat, encrypt, u_in, v_in, w_of}
use Rattle.algebra.specs.RowArrays.{RowsAre}
use Rattle.algebra.proofs.RowArrays.{joined_same}
use Rattle.kpke.specs.Matrix.{entry_at, u_row, v_row}
use Rattle.kpke.proofs.Entries.{products, down, entry_down}

first_rows : (k : ℕ) (f : ℕ → List ℕ) (t : List (List ℕ)) → RowsAre k f t → (j : ℕ) → j < k → row_at t (0 + 1 * j) ≡ f j
first_rows k f t h j l = ap (row_at t) {x = 0 + 1 * j} {y = j} (omega arith) ∙ h j l

pub text_is : (h : Hashes) (p : KemSet) (ek m r : List ℕ) (a t y u : List (List ℕ)) (v text : List ℕ) →
    RowsAre (p.k * p.k) (entry_at h p.k (ek_rho p ek)) a → RowsAre p.k (key_row ek) t → RowsAre p.k (λ j. ntt (small h p.eta1 r j)) y →
    RowsAre p.k (u_row h p.k p.eta2 p.du r a y) u →
    v ≡ v_row h p.k p.eta2 p.dv r t y m →
    text ≡ joined (tables p.k (λ i. pack p.du (row_at u i))) ++ pack p.dv v → text ≡ encrypt h p ek m r
text_is h p ek m r a t y u v text ra rt ry ru rv e =
    e ∙ ap₂ (λ x y. x ++ y) (joined_same p.k _ _ (λ i l. ap (pack p.du) (ru i l ∙ ap (λ x. compress_p p.du (add_p q (ntt_inv x) (small h p.eta2 r (p.k + i)))) (across i l))))
    (ap (pack p.dv) (rv ∙ ap (λ x. compress_p p.dv (add_p q (add_p q (ntt_inv x) (small h p.eta2 r (2 * p.k))) (mu m)))
    (products p.k 0 1 t y (key_row ek) (y_hat h p r) (first_rows p.k (key_row ek) t rt) ry)))
  where
    across : (i : ℕ) → i < p.k → sum_p q p.k (λ j. multiply_ntts (row_at a (i + p.k * j)) (row_at y j)) ≡ sum_p q p.k (λ j. multiply_ntts (matrix h (ek_rho p ek) j i) (y_hat h p r j))
    across i l =
        products p.k i p.k a y (λ j. matrix h (ek_rho p ek) j i) (y_hat h p r)
        (λ j n. ra (i + p.k * j) (down p.k i j l n) ∙ entry_down h p.k (ek_rho p ek) i j l n) ry

pub w_is : (p : KemSet) (dk c : List ℕ) (s u : List (List ℕ)) (v f : List ℕ) →
    RowsAre p.k (key_row dk) s → RowsAre p.k (λ j. ntt (u_in p c j)) u → v ≡ v_in p c → f ≡ ntt_inv (sum_p q p.k (λ j. multiply_ntts (row_at s (0 + 1 * j)) (row_at u j))) →
    sub_p q v f ≡ w_of p dk c
w_is p dk c s u v f rs ru rv rf =
    ap₂ (sub_p q) rv (rf ∙ ap ntt_inv (products p.k 0 1 s u (key_row dk) (λ j. ntt (u_in p c j)) (first_rows p.k (key_row dk) s rs) ru))
