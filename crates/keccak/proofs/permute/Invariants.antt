use Rattle.std.proofs.Common.{◌≡◌, drop}
use Rattle.standards.specs.Fips202.{rounds, keccak_f}
use Rattle.fips202_laws.proofs.Constants.{constants}
use Rattle.keccak.proofs.permute.Given as goal

-- the rounds that are left give the permutation of what was there at first
abbrev pub invariant-loop-constant : goal.invariant-loop-constant
invariant-loop-constant l = rounds (drop l.constant-index constants) l.a ≡ keccak_f l.initial.a
