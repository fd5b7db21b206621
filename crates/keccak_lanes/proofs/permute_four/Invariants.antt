use Rattle.std.proofs.Common.{◌≡◌, ℕ, ◌<◌, drop}
use Rattle.standards.specs.Fips202.{rounds, keccak_f}
use Rattle.fips202_laws.proofs.Constants.{constants}
use Rattle.keccak_lanes.specs.FourStates.{state_of}
use Rattle.keccak_lanes.proofs.permute_four.Given as goal

-- in each state, the rounds that are left give the permutation of what was there at first
abbrev pub invariant-loop-constant : goal.invariant-loop-constant
invariant-loop-constant l =
    (k : ℕ) → k < 4 → rounds (drop l.constant-index constants) (state_of k l.a) ≡ keccak_f (state_of k l.initial.a)
