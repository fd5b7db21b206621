-- FIPS 203, the auxiliary algorithms: parameter sets, Compress, ByteDecode, the transform, and sampling. Assumes nothing.
use Rattle.std.specs.Prelude.{cond, List, [], ◌∷◌, ◌++◌, ℕ, ◌+◌, ◌-◌, ◌*◌, ◌/◌, ◌%◌, ◌^◌, eqb, ltb}
use Rattle.standards.specs.Lists.{table, at, sum_to}
use Rattle.standards.specs.Bytes.{bit, unpack, bit_rev}
use Rattle.standards.specs.Ring.{power}
use Rattle.standards.specs.Hashes.{Hashes, shake256_bytes, draw}

-- ---- parameter sets
pub record KemSet : Type 0 where
  pub k : ℕ
  pub eta1 : ℕ
  pub eta2 : ℕ
  pub du : ℕ
  pub dv : ℕ

abbrev pub mlkem512 : KemSet
mlkem512 = record { k = 2; eta1 = 3; eta2 = 2; du = 10; dv = 4 }

abbrev pub mlkem768 : KemSet
mlkem768 = record { k = 3; eta1 = 2; eta2 = 2; du = 10; dv = 4 }

abbrev pub mlkem1024 : KemSet
mlkem1024 = record { k = 4; eta1 = 2; eta2 = 2; du = 11; dv = 5 }

abbrev pub q : ℕ
q = 3329

-- ---- Compress and Decompress, of d bits
-- 2^d x / q, rounded to the nearest whole number (a half goes up), modulo 2^d
abbrev pub compress : ℕ → ℕ → ℕ
compress d x = ((2 ^ (d + 1) * x + q) / (2 * q)) % 2 ^ d

-- q y / 2^d, rounded likewise
abbrev pub decompress : ℕ → ℕ → ℕ
decompress d y = (2 * q * y + 2 ^ d) / 2 ^ (d + 1)

-- number by number
abbrev pub compress_p : ℕ → List ℕ → List ℕ
compress_p d f = table 256 (λ i. compress d (at f i))

abbrev pub decompress_p : ℕ → List ℕ → List ℕ
decompress_p d f = table 256 (λ i. decompress d (at f i))

-- ---- ByteEncode and ByteDecode for d below 12 are pack and unpack. ByteDecode of 12 bits reduces modulo q
abbrev pub byte_decode12 : List ℕ → List ℕ
byte_decode12 bs = table 256 (λ n. at (unpack 12 256 bs) n % q)

-- ---- the transform: the remainders modulo x^2 - gamma i, two numbers each, in the standard's order
abbrev pub gamma : ℕ → ℕ
gamma i = power q 17 (2 * bit_rev 7 i + 1)

-- NTT
abbrev pub ntt_at : List ℕ → ℕ → ℕ
ntt_at f n = let g = gamma (n / 2) in sum_to 128 (λ j. at f (2 * j + n % 2) * power q g j) % q

abbrev pub ntt : List ℕ → List ℕ
ntt f = table 256 (ntt_at f)

-- The inverse of NTT. 3303 is the inverse of 128; the power 255 of gamma i is its inverse.
abbrev pub ntt_inv_at : List ℕ → ℕ → ℕ
ntt_inv_at f n = (3303 * (sum_to 128 (λ i. at f (2 * i + n % 2) * power q (power q (gamma i) 255) (n / 2)) % q)) % q

abbrev pub ntt_inv : List ℕ → List ℕ
ntt_inv f = table 256 (ntt_inv_at f)

-- MultiplyNTTs: a product modulo x^2 - gamma i for each pair (BaseCaseMultiply)
abbrev pub multiply_ntts_at : List ℕ → List ℕ → ℕ → ℕ
multiply_ntts_at f g n =
    let i = 2 * (n / 2) in
    cond (eqb (n % 2) 0) ((at f i * at g i + ((at f (i + 1) * at g (i + 1)) % q) * gamma (n / 2)) % q) ((at f i * at g (i + 1) + at f (i + 1) * at g i) % q)

abbrev pub multiply_ntts : List ℕ → List ℕ → List ℕ
multiply_ntts f g = table 256 (multiply_ntts_at f g)

-- ---- sampling
-- Three bytes hold two numbers of 12 bits: candidates 2 g and 2 g + 1 come from group g.
abbrev pub candidate12 : (ℕ → ℕ) → ℕ → ℕ
candidate12 s n =
    let g = 3 * (n / 2) in
    cond (eqb (n % 2) 0) (s g + 256 * (s (g + 1) % 16)) (s (g + 1) / 16 + 16 * s (g + 2))

-- SampleNTT: the first 256 candidates below q, of at most 1,024 groups of three bytes
abbrev pub sample_ntt : Hashes → List ℕ → List ℕ
sample_ntt h seed = let s = h.shake128 seed in draw (λ n. ltb (candidate12 s n) q) (candidate12 s) 2048 0 256

-- SamplePolyCBD: number i is the sum of eta bits less the sum of the eta bits after them
abbrev pub sample_poly_cbd : ℕ → List ℕ → List ℕ
sample_poly_cbd eta bs = table 256 (λ i. (sum_to eta (λ j. bit bs (2 * i * eta + j)) + (q - sum_to eta (λ j. bit bs (2 * i * eta + eta + j)))) % q)

-- PRF: 64 eta bytes of SHAKE256 of s and one byte
abbrev pub prf : Hashes → ℕ → List ℕ → ℕ → List ℕ
prf h eta s n = shake256_bytes h (s ++ (n ∷ [])) (64 * eta)
