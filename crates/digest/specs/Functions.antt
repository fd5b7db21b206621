-- The four functions by their names, and what each gives of a message. Assumes nothing.
use Rattle.std.specs.Prelude.{ℕ, Bool, List, codes, ◌==◌, nat_le}
use Rattle.standards.specs.Lists.{table}
use Rattle.standards.specs.Fips202.{fips202}
use Rattle.digest.specs.declared.functions.Function.{Function}
use Rattle.digest.specs.declared.functions.Function.TheVariants.{Sha3_256, Sha3_512, Shake128, Shake256}

abbrev pub name_of : Function → List ℕ
name_of Sha3_256 = codes "sha3-256"
name_of Sha3_512 = codes "sha3-512"
name_of Shake128 = codes "shake128"
name_of Shake256 = codes "shake256"

-- how many bytes may be asked for: those of SHA3 are fixed
abbrev pub gives : Function → ℕ → Bool
gives Sha3_256 n = n == 32
gives Sha3_512 n = n == 64
gives Shake128 n = nat_le n 1048576
gives Shake256 n = nat_le n 1048576

abbrev pub hash_of : Function → List ℕ → ℕ → List ℕ
hash_of Sha3_256 m n = fips202.sha3_256 m
hash_of Sha3_512 m n = fips202.sha3_512 m
hash_of Shake128 m n = table n (fips202.shake128 m)
hash_of Shake256 m n = table n (fips202.shake256 m)
