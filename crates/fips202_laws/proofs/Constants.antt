-- The round constants as a list of numbers, equal to what the register gives.
use Rattle.std.proofs.Common.{◌≡◌, ℕ, List, [], ◌∷◌, refl}
use Rattle.standards.specs.Lists.{from, sum_to}
use Rattle.standards.specs.Fips202.{lfsr, round_constants}

abbrev pub constants : List ℕ
constants =
    0x0000000000000001 ∷ 0x0000000000008082 ∷ 0x800000000000808a ∷ 0x8000000080008000 ∷ 0x000000000000808b ∷ 0x0000000080000001 ∷
    0x8000000080008081 ∷ 0x8000000000008009 ∷ 0x000000000000008a ∷ 0x0000000000000088 ∷ 0x0000000080008009 ∷ 0x000000008000000a ∷
    0x000000008000808b ∷ 0x800000000000008b ∷ 0x8000000000008089 ∷ 0x8000000000008003 ∷ 0x8000000000008002 ∷ 0x8000000000000080 ∷
    0x000000000000800a ∷ 0x800000008000000a ∷ 0x8000000080008081 ∷ 0x8000000000008080 ∷ 0x0000000080000001 ∷ 0x8000000080008008 ∷ []

pub constants_are : constants ≡ round_constants
unfolding from sum_to lfsr
constants_are = refl
