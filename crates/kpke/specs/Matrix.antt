-- The matrix as rows one after the other, and what is computed of the rows that the code holds.
use Rattle.std.specs.Prelude.{ℕ, ◌+◌, ◌*◌, ◌/◌, ◌%◌, List}
use Rattle.standards.specs.Lists.{row_at}
use Rattle.standards.specs.Ring.{add_p, sum_p}
use Rattle.standards.specs.Hashes.{Hashes}
use Rattle.standards.specs.MlKemParts.{ntt_inv, multiply_ntts, compress_p}
use Rattle.standards.specs.MlKem.{matrix, small, mu}

-- entry i, j of a matrix of k rows of k stands at k * i + j
abbrev pub entry_at : Hashes → ℕ → List ℕ → ℕ → List ℕ
entry_at h k rho n = matrix h rho (n / k) (n % k)

-- row i of u, compressed: column i of the matrix a times y, and noise
abbrev pub u_row : Hashes → ℕ → ℕ → ℕ → List ℕ → List (List ℕ) → List (List ℕ) → ℕ → List ℕ
u_row h k eta du r a y i = compress_p du (add_p 3329 (ntt_inv (sum_p 3329 k (λ j. multiply_ntts (row_at a (i + k * j)) (row_at y j)))) (small h eta r (k + i)))

-- v, compressed: the key's rows t times y, noise and the message
abbrev pub v_row : Hashes → ℕ → ℕ → ℕ → List ℕ → List (List ℕ) → List (List ℕ) → List ℕ → List ℕ
v_row h k eta dv r t y m = compress_p dv (add_p 3329 (add_p 3329 (ntt_inv (sum_p 3329 k (λ j. multiply_ntts (row_at t (0 + 1 * j)) (row_at y j)))) (small h eta r (2 * k))) (mu m))
