-- Verifying in its steps, two of them shut: what the code's parts owe. That they make up the standards' text is a lemma.
use Rattle.std.specs.Prelude.{ℕ, ◌+◌, ◌*◌, ◌/◌, ◌%◌, Bool, List, ◌++◌, take}
use Rattle.standards.specs.Lists.{table, tables, at, row_at, same}
use Rattle.standards.specs.Ring.{sub_p, sum_p}
use Rattle.standards.specs.Hashes.{Hashes, shake256_bytes}
use Rattle.standards.specs.MlDsaParts.{DsaSet, q, w1_encode, sample_in_ball, expand_a, ntt, ntt_inv, multiply_ntt}
use Rattle.standards.specs.MlDsa.{mu_of, pk_t1}

-- row i of t1 times 2^13, transformed
abbrev pub t1_hat : List ℕ → ℕ → List ℕ
t1_hat pk i = ntt (table 256 (λ n. (8192 * at (pk_t1 pk i) n) % q))

-- row i of w', of the matrix as the code holds it, row after row, and of c and the rows of z, all transformed
abbrev pub w_row : ℕ → List ℕ → List (List ℕ) → List ℕ → List (List ℕ) → ℕ → List ℕ
w_row l pk a cn zn i = ntt_inv (sub_p q (sum_p q l (λ j. multiply_ntt (row_at a (l * i + j)) (row_at zn j))) (multiply_ntt cn (t1_hat pk i)))

-- w' of the key, the commitment hash and the rows of z, transformed
unfoldable pub w_step : Hashes → DsaSet → List ℕ → List ℕ → List (List ℕ) → List (List ℕ)
w_step h p pk c zn =
    let cn = ntt (sample_in_ball h p c) in
    tables p.k (λ i. ntt_inv (sub_p q (sum_p q p.l (λ j. multiply_ntt (expand_a h (take 32 pk) i j) (row_at zn j))) (multiply_ntt cn (t1_hat pk i))))

-- whether c is the commitment hash of the rows of w1
unfoldable pub is_commitment_hash : Hashes → DsaSet → List ℕ → List ℕ → List ℕ → List (List ℕ) → List ℕ → Bool
is_commitment_hash h p pk ctx m w1 c = same c (shake256_bytes h (mu_of h (shake256_bytes h pk 64) ctx m ++ w1_encode p w1) (p.lambda / 4))
