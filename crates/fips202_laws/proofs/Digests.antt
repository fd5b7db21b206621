-- The first bytes of two digests of no bytes, computed.
use Rattle.std.proofs.Common.{refl}
use Rattle.standards.specs.Lists.{from, sum_to}
use Rattle.standards.specs.Fips202.{lfsr, rounds, absorb_blocks, permuted}
use Rattle.standards.specs.Cases.{DigestCases}

pub digest_cases : DigestCases
unfolding from sum_to lfsr rounds absorb_blocks permuted
digest_cases = (refl, refl)
