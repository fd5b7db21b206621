-- What is drawn of the 128 bytes of seeds, and what is made of the rows that the code holds.
use Rattle.std.specs.Prelude.{ℕ, ◌+◌, ◌*◌, ◌/◌, ◌%◌, Bool, ◌&&◌, List, ◌++◌, take, drop}
use Rattle.standards.specs.Lists.{row_at, tables, joined, all_full}
use Rattle.standards.specs.Ring.{add_p, sum_p}
use Rattle.standards.specs.Hashes.{Hashes, shake256_bytes}
use Rattle.standards.specs.MlDsaParts.{DsaSet, eta_bits, bit_pack, expand_a, expand_s, ntt, ntt_inv, multiply_ntt}
use Rattle.mldsa_laws.specs.Steps.{padded}

-- no draw has failed
abbrev pub rows_drawn : Hashes → DsaSet → List ℕ → Bool
rows_drawn h p seeds =
    all_full (tables (p.k * p.l) (λ n. expand_a h (take 32 seeds) (n / p.l) (n % p.l))) &&
    all_full (tables p.l (λ i. expand_s h p.eta (take 64 (drop 32 seeds)) i)) && all_full (tables p.k (λ i. expand_s h p.eta (take 64 (drop 32 seeds)) (p.l + i)))

-- rows of s1 and s2, with noughts in the empty places of a draw
abbrev pub s1_row : Hashes → DsaSet → List ℕ → ℕ → List ℕ
s1_row h p seeds i = padded (expand_s h p.eta (take 64 (drop 32 seeds)) i)

abbrev pub s2_row : Hashes → DsaSet → List ℕ → ℕ → List ℕ
s2_row h p seeds i = padded (expand_s h p.eta (take 64 (drop 32 seeds)) (p.l + i))

-- row i of t, of the matrix with l entries in a row, s1 and s2
abbrev pub t_row : ℕ → List (List ℕ) → List (List ℕ) → List (List ℕ) → ℕ → List ℕ
t_row l a s1 s2 i = add_p 8380417 (ntt_inv (sum_p 8380417 l (λ j. multiply_ntt (row_at a (l * i + j)) (ntt (row_at s1 j))))) (row_at s2 i)

-- the packed rows of s1, s2 and t0
abbrev pub packed_rows : DsaSet → List (List ℕ) → List (List ℕ) → List (List ℕ) → List ℕ
packed_rows p s1 s2 t0 =
    joined (tables p.l (λ i. bit_pack (eta_bits p) p.eta (row_at s1 i))) ++
    (joined (tables p.k (λ i. bit_pack (eta_bits p) p.eta (row_at s2 i))) ++ joined (tables p.k (λ i. bit_pack 13 4096 (row_at t0 i))))

-- the parts of a secret key
abbrev pub sk_parts : Hashes → DsaSet → List ℕ → List ℕ → List (List ℕ) → List (List ℕ) → List (List ℕ) → List ℕ
sk_parts h p seeds pk s1 s2 t0 = take 32 seeds ++ (drop 96 seeds ++ (shake256_bytes h pk 64 ++ packed_rows p s1 s2 t0))
