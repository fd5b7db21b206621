-- FIPS 203: K-PKE and ML-KEM, over any hashes; the checks of keys; the noise of an exchange. Assumes nothing.
use Rattle.std.specs.Prelude.{Bool, cond, ◌&&◌, not, List, [], ◌∷◌, ◌++◌, ℕ, ◌+◌, ◌-◌, ◌*◌, ◌/◌, ◌%◌, eqb, ltb, length, take, drop}
use Rattle.standards.specs.Lists.{table, tables, joined, same, all_full}
use Rattle.standards.specs.Bytes.{bit, pack, unpack}
use Rattle.standards.specs.Ring.{add_p, sub_p, sum_p, norm}
use Rattle.standards.specs.Hashes.{Hashes, shake256_bytes}
use Rattle.standards.specs.MlKemParts.{KemSet, q, decompress, compress_p, decompress_p, byte_decode12, ntt, ntt_inv, multiply_ntts, sample_ntt, sample_poly_cbd, prf}

-- ---- what key generation and encryption draw
-- entry i, j of the matrix, in the transformed domain: SampleNTT of rho, the column, the row
abbrev pub matrix : Hashes → List ℕ → ℕ → ℕ → List ℕ
matrix h rho i j = sample_ntt h (rho ++ (j ∷ i ∷ []))

-- no entry's draw has failed
abbrev pub matrix_drawn : Hashes → KemSet → List ℕ → Bool
matrix_drawn h p rho = all_full (tables (p.k * p.k) (λ n. matrix h rho (n / p.k) (n % p.k)))

-- the n-th small polynomial of the seed s
abbrev pub small : Hashes → ℕ → List ℕ → ℕ → List ℕ
small h eta s n = sample_poly_cbd eta (prf h eta s n)

-- ---- K-PKE.KeyGen
-- (rho, sigma) is G of d and the byte k
abbrev pub key_seeds : Hashes → KemSet → List ℕ → List ℕ
key_seeds h p d = h.sha3_512 (d ++ (p.k ∷ []))

abbrev pub rho_of : Hashes → KemSet → List ℕ → List ℕ
rho_of h p d = take 32 (key_seeds h p d)

abbrev pub sigma_of : Hashes → KemSet → List ℕ → List ℕ
sigma_of h p d = drop 32 (key_seeds h p d)

-- row i of the secret vector s, transformed
abbrev pub s_hat : Hashes → KemSet → List ℕ → ℕ → List ℕ
s_hat h p d i = ntt (small h p.eta1 (sigma_of h p d) i)

-- row i of t = A s + e, transformed
abbrev pub t_hat : Hashes → KemSet → List ℕ → ℕ → List ℕ
t_hat h p d i = add_p q (sum_p q p.k (λ j. multiply_ntts (matrix h (rho_of h p d) i j) (s_hat h p d j))) (ntt (small h p.eta1 (sigma_of h p d) (p.k + i)))

-- ---- ML-KEM.KeyGen: the encapsulation key of d, and the decapsulation key of d and z, which holds it with its hash
abbrev pub ek_of : Hashes → KemSet → List ℕ → List ℕ
ek_of h p d = joined (tables p.k (λ i. pack 12 (t_hat h p d i))) ++ rho_of h p d

abbrev pub dk_of : Hashes → KemSet → List ℕ → List ℕ → List ℕ
dk_of h p d z = joined (tables p.k (λ i. pack 12 (s_hat h p d i))) ++ (ek_of h p d ++ (h.sha3_256 (ek_of h p d) ++ z))

-- ---- K-PKE.Encrypt, with a key's bytes, a message of 32 bytes and coins r
-- row i of a key's polynomials
abbrev pub key_row : List ℕ → ℕ → List ℕ
key_row key i = byte_decode12 (take 384 (drop (384 * i) key))

abbrev pub ek_rho : KemSet → List ℕ → List ℕ
ek_rho p ek = drop (384 * p.k) ek

-- the message's bits, as polynomial
abbrev pub mu : List ℕ → List ℕ
mu m = table 256 (λ i. decompress 1 (bit m i))

abbrev pub y_hat : Hashes → KemSet → List ℕ → ℕ → List ℕ
y_hat h p r i = ntt (small h p.eta1 r i)

-- row i of u = A^T y + e1: column i of the matrix
abbrev pub u_of : Hashes → KemSet → List ℕ → List ℕ → ℕ → List ℕ
u_of h p ek r i = add_p q (ntt_inv (sum_p q p.k (λ j. multiply_ntts (matrix h (ek_rho p ek) j i) (y_hat h p r j)))) (small h p.eta2 r (p.k + i))

-- v = t^T y + e2 + mu
abbrev pub v_of : Hashes → KemSet → List ℕ → List ℕ → List ℕ → List ℕ
v_of h p ek m r = add_p q (add_p q (ntt_inv (sum_p q p.k (λ j. multiply_ntts (key_row ek j) (y_hat h p r j)))) (small h p.eta2 r (2 * p.k))) (mu m)

abbrev pub encrypt : Hashes → KemSet → List ℕ → List ℕ → List ℕ → List ℕ
encrypt h p ek m r = joined (tables p.k (λ i. pack p.du (compress_p p.du (u_of h p ek r i)))) ++ pack p.dv (compress_p p.dv (v_of h p ek m r))

-- ---- K-PKE.Decrypt
-- a ciphertext's u, row i, and v
abbrev pub u_in : KemSet → List ℕ → ℕ → List ℕ
u_in p c i = decompress_p p.du (unpack p.du 256 (take (32 * p.du) (drop (32 * p.du * i) c)))

abbrev pub v_in : KemSet → List ℕ → List ℕ
v_in p c = decompress_p p.dv (unpack p.dv 256 (drop (32 * p.du * p.k) c))

-- w = v - s^T u: the message and noise
abbrev pub w_of : KemSet → List ℕ → List ℕ → List ℕ
w_of p dk c = sub_p q (v_in p c) (ntt_inv (sum_p q p.k (λ j. multiply_ntts (key_row dk j) (ntt (u_in p c j)))))

abbrev pub decrypt : KemSet → List ℕ → List ℕ → List ℕ
decrypt p dk c = pack 1 (compress_p 1 (w_of p dk c))

-- ---- ML-KEM.Encaps: the shared key and the coins are G of m and the hash of the key
abbrev pub key_and_coins : Hashes → List ℕ → List ℕ → List ℕ
key_and_coins h ek m = h.sha3_512 (m ++ h.sha3_256 ek)

abbrev pub encaps_key : Hashes → List ℕ → List ℕ → List ℕ
encaps_key h ek m = take 32 (key_and_coins h ek m)

abbrev pub encaps_text : Hashes → KemSet → List ℕ → List ℕ → List ℕ
encaps_text h p ek m = encrypt h p ek m (drop 32 (key_and_coins h ek m))

-- ---- ML-KEM.Decaps, with implicit rejection
abbrev pub dk_ek : KemSet → List ℕ → List ℕ
dk_ek p dk = take (384 * p.k + 32) (drop (384 * p.k) dk)

abbrev pub dk_hash : KemSet → List ℕ → List ℕ
dk_hash p dk = take 32 (drop (768 * p.k + 32) dk)

abbrev pub dk_z : KemSet → List ℕ → List ℕ
dk_z p dk = drop (768 * p.k + 64) dk

abbrev pub decaps : Hashes → KemSet → List ℕ → List ℕ → List ℕ
decaps h p dk c =
    let g = h.sha3_512 (decrypt p dk c ++ dk_hash p dk) in
    cond (same c (encrypt h p (dk_ek p dk) (decrypt p dk c) (drop 32 g))) (take 32 g) (shake256_bytes h (dk_z p dk ++ c) 32)

-- ---- lengths, and the checks of keys and ciphertexts: 0, or 1 for a length, 2 for a key with a number of 3,329 or more, 3 for a hash that
-- is not that of the encapsulation key in the decapsulation key
abbrev pub ek_length : KemSet → ℕ
ek_length p = 384 * p.k + 32

abbrev pub dk_length : KemSet → ℕ
dk_length p = 768 * p.k + 96

abbrev pub text_length : KemSet → ℕ
text_length p = 32 * (p.du * p.k + p.dv)

abbrev pub check_ek : KemSet → List ℕ → ℕ
check_ek p ek =
    cond (not (eqb (length ek) (ek_length p))) 1 (cond (not (same (joined (tables p.k (λ i. pack 12 (key_row ek i)))) (take (384 * p.k) ek))) 2 0)

abbrev pub check_dk : Hashes → KemSet → List ℕ → List ℕ → ℕ
check_dk h p dk c =
    cond (not (eqb (length dk) (dk_length p) && eqb (length c) (text_length p))) 1 (cond (not (same (h.sha3_256 (dk_ek p dk)) (dk_hash p dk))) 3 0)

-- ---- the noise of an exchange with the keys of d and z and the coin m: what decryption gets before it compresses, less the message
abbrev pub noise : Hashes → KemSet → List ℕ → List ℕ → List ℕ → ℕ
noise h p d z m = norm q (sub_p q (w_of p (dk_of h p d z) (encaps_text h p (ek_of h p d) m)) (mu m))

-- it is below a quarter of the modulus
abbrev pub noise_below_quarter : Hashes → KemSet → List ℕ → List ℕ → List ℕ → Bool
noise_below_quarter h p d z m = ltb (4 * noise h p d z m) (q - 1)
