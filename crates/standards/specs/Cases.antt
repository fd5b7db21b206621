-- A table of cases at which implementations are known to go wrong, one equation for each. Assumes nothing.
use Rattle.std.specs.Prelude.{◌≡◌, [], ◌∷◌, ◌-◌, ◌%◌, set, take}
use Rattle.standards.specs.Lists.{table}
use Rattle.standards.specs.Ring.{zero_p}
use Rattle.standards.specs.Fips202.{fips202}
use Rattle.standards.specs.MlKemParts.{compress, decompress, ntt, multiply_ntts}
use Rattle.standards.specs.MlDsaParts.{high_bits, low_bits, power2_round1, power2_round0}

-- Compress and Decompress at their edges
abbrev pub CompressCases : Type 0
CompressCases =
    (compress 1 832 ≡ 0) × (compress 1 833 ≡ 1) × (compress 1 2496 ≡ 1) × (compress 1 2497 ≡ 0) × (decompress 1 1 ≡ 1665) × (compress 10 3328 ≡ 0)

-- ML-KEM's transform of 1 is 1, 0, 1, 0 and so on; that of x^255 times that of x is that of -1
abbrev pub TransformCases : Type 0
TransformCases =
    (ntt (set zero_p 0 1) ≡ table 256 (λ i. 1 - i % 2)) × (multiply_ntts (ntt (set zero_p 255 1)) (ntt (set zero_p 1 1)) ≡ ntt (set zero_p 0 3328))

-- the high and low parts about gamma2 = 95,232, and those of q - 1, whose low part is -1
abbrev pub DecomposeCases : Type 0
DecomposeCases =
    (high_bits 95232 8380416 ≡ 0) × (low_bits 95232 8380416 ≡ 8380416) × (high_bits 95232 95232 ≡ 0) × (low_bits 95232 95232 ≡ 95232) × (high_bits 95232 95233 ≡ 1) × (low_bits 95232 95233 ≡ 8380417 - 95231)

abbrev pub Power2RoundCases : Type 0
Power2RoundCases = (power2_round1 4096 ≡ 0) × (power2_round0 4096 ≡ 4096) × (power2_round1 4097 ≡ 1) × (power2_round0 4097 ≡ 8380417 - 4095)

-- the first eight bytes of SHA3-256 and of SHAKE128 of no bytes
abbrev pub DigestCases : Type 0
DigestCases =
    (take 8 (fips202.sha3_256 []) ≡ 167 ∷ 255 ∷ 198 ∷ 248 ∷ 191 ∷ 30 ∷ 215 ∷ 102 ∷ []) ×
    (table 8 (fips202.shake128 []) ≡ 127 ∷ 156 ∷ 43 ∷ 164 ∷ 232 ∷ 143 ∷ 130 ∷ 125 ∷ [])

abbrev pub TableOfCases : Type 0
TableOfCases = CompressCases × (TransformCases × (DecomposeCases × (Power2RoundCases × DigestCases)))
