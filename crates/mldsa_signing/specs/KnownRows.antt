-- Rows that the code holds beside a secret key. Assumes nothing.
use Rattle.std.specs.Prelude.{ℕ, ◌*◌, List}
use Rattle.standards.specs.Hashes.{Hashes}
use Rattle.standards.specs.MlDsaParts.{DsaSet, ntt}
use Rattle.standards.specs.MlDsa.{sk_rho, sk_s1, sk_s2, sk_t0}
use Rattle.algebra.specs.RowArrays.{RowsFilled}
use Rattle.mldsa_laws.specs.Steps.{entry_at}

-- v is the rows f 0, .., f (n - 1), and their numbers are below q
abbrev pub KnownRows : ℕ → (ℕ → List ℕ) → List (List ℕ) → Type 0
KnownRows n f v = RowsFilled n 8380417 f n v

-- the secret rows of a key, transformed
abbrev pub S1Rows : DsaSet → List ℕ → List (List ℕ) → Type 0
S1Rows p sk = KnownRows p.l (λ i. ntt (sk_s1 p sk i))

abbrev pub S2Rows : DsaSet → List ℕ → List (List ℕ) → Type 0
S2Rows p sk = KnownRows p.k (λ i. ntt (sk_s2 p sk i))

abbrev pub T0Rows : DsaSet → List ℕ → List (List ℕ) → Type 0
T0Rows p sk = KnownRows p.k (λ i. ntt (sk_t0 p sk i))

-- its matrix, row after row
abbrev pub MatrixRows : Hashes → DsaSet → List ℕ → List (List ℕ) → Type 0
MatrixRows h p sk = KnownRows (p.k * p.l) (entry_at h p.l (sk_rho sk))
