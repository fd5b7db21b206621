-- What is promised of the whole, and of its parts. Each is a type, and a term of that type is its proof. Assumes nothing.
use Rattle.std.specs.Prelude.{◌≡◌, List, ◌++◌, ℕ, ◌*◌, ◌<◌, ◌/◌, ◌^◌, leb, T, length, take}
use Rattle.standards.specs.Lists.{tables, joined, all_below}
use Rattle.standards.specs.Bytes.{Bytes, pack, unpack}
use Rattle.standards.specs.Ring.{Poly, mul_p}
use Rattle.standards.specs.Hashes.{Hashes, Fair}
use Rattle.standards.specs.Fips202.{fips202}
use Rattle.standards.specs.MlKemParts.{KemSet, mlkem512, mlkem768, mlkem1024, multiply_ntts}
use Rattle.standards.specs.MlKemParts.{ntt as kem_ntt, ntt_inv as kem_ntt_inv}
use Rattle.standards.specs.MlKem.{ek_of, dk_of, dk_length, check_ek, check_dk, encaps_key, encaps_text, decaps, noise_below_quarter}
use Rattle.standards.specs.MlDsaParts.{DsaSet, mldsa44, mldsa65, mldsa87, gamma1, z_bits, bit_pack, hint_bit_pack, multiply_ntt}
use Rattle.standards.specs.MlDsaParts.{ntt as dsa_ntt, ntt_inv as dsa_ntt_inv}
use Rattle.standards.specs.MlDsa.{pk_of, sk_of, sign, verify, z_of, hint_row}

-- the three sets of each scheme
pub data OneKem : KemSet → Type 0 where
  k512 : OneKem mlkem512
  k768 : OneKem mlkem768
  k1024 : OneKem mlkem1024

pub data OneDsa : DsaSet → Type 0 where
  d44 : OneDsa mldsa44
  d65 : OneDsa mldsa65
  d87 : OneDsa mldsa87

-- FIPS 202's own functions give bytes, and of the right length.
abbrev pub HashesAreFair : Type 0
HashesAreFair = Fair fips202

-- Whatever the hashes do, so long as they give bytes: keys have their lengths and pass their checks, and both sides of an exchange have one key
-- whenever its noise is below a quarter of the modulus.
abbrev pub ExchangesAgree : Type 0
ExchangesAgree =
    (h : Hashes) → Fair h → (p : KemSet) → OneKem p → (d z m : List ℕ) → Bytes 32 d → Bytes 32 z → Bytes 32 m →
    (check_ek p (ek_of h p d) ≡ 0) ×
    (check_dk h p (dk_of h p d z) (encaps_text h p (ek_of h p d) m) ≡ 0) ×
    Bytes (dk_length p) (dk_of h p d z) ×
    (T (noise_below_quarter h p d z m) → decaps h p (dk_of h p d z) (encaps_text h p (ek_of h p d) m) ≡ encaps_key h (ek_of h p d) m)

-- Every signature that signing gives passes its check: for every seed, message, context and coin, and whatever the hashes do.
abbrev pub SignaturesPass : Type 0
SignaturesPass =
    (h : Hashes) → Fair h → (p : DsaSet) → OneDsa p → (xi ctx m rnd : List ℕ) →
    Bytes 32 xi → T (leb (length ctx) 255) → T (all_below 256 ctx) → T (all_below 256 m) → Bytes 32 rnd →
    0 < length (sign h p (sk_of h p xi) ctx m rnd) →
    T (verify h p (pk_of h p xi) ctx m (sign h p (sk_of h p xi) ctx m rnd))

-- An accepted signature has one spelling: it is, byte for byte, what packing its parts again gives.
abbrev pub sig_again : DsaSet → List ℕ → List ℕ
sig_again p s =
    take (p.lambda / 4) s ++ (joined (tables p.l (λ i. bit_pack (z_bits p) (gamma1 p) (z_of p s i))) ++ hint_bit_pack p (tables p.k (λ i. hint_row p s i)))

abbrev pub OneSpelling : Type 0
OneSpelling =
    (h : Hashes) → Fair h → (p : DsaSet) → OneDsa p → (pk ctx m s : List ℕ) → T (all_below 256 s) → T (verify h p pk ctx m s) → sig_again p s ≡ s

-- The transforms go both ways, and the product of transformed polynomials is the ring's product: ML-KEM's, then ML-DSA's.
abbrev pub TransformsAreProducts : Type 0
TransformsAreProducts =
    ((f g : List ℕ) → Poly 3329 f → Poly 3329 g →
    (kem_ntt_inv (kem_ntt f) ≡ f) × (kem_ntt (kem_ntt_inv f) ≡ f) × (kem_ntt_inv (multiply_ntts (kem_ntt f) (kem_ntt g)) ≡ mul_p 3329 f g)) ×
    ((f g : List ℕ) → Poly 8380417 f → Poly 8380417 g →
    (dsa_ntt_inv (dsa_ntt f) ≡ f) × (dsa_ntt (dsa_ntt_inv f) ≡ f) × (dsa_ntt_inv (multiply_ntt (dsa_ntt f) (dsa_ntt g)) ≡ mul_p 8380417 f g))

-- Packing goes both ways, at every width: numbers to bytes and back, and bytes to numbers and back.
abbrev pub PackingGoesBothWays : Type 0
PackingGoesBothWays =
    (d : ℕ) (f : List ℕ) → 0 < d → length f ≡ 256 → T (all_below (2 ^ d) f) →
    Bytes (32 * d) (pack d f) × (unpack d 256 (pack d f) ≡ f) ×
    ((bs : List ℕ) → Bytes (32 * d) bs → T (all_below (2 ^ d) (unpack d 256 bs)) × (pack d (unpack d 256 bs) ≡ bs))

-- THE MAIN PROMISE, for all six sets.
abbrev pub MainPromise : Type 0
MainPromise = HashesAreFair × (ExchangesAgree × (SignaturesPass × (OneSpelling × (TransformsAreProducts × PackingGoesBothWays))))
