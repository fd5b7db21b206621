use Rattle.std.proofs.Common.{◌≡◌, ℕ, ◌+◌, ◌*◌, ◌<◌, length}
use Rattle.standards.specs.Lists.{at}
use Rattle.keccak_lanes.proofs.states.state.Given as goal

-- the lanes below i are there
abbrev pub invariant-loop-i : goal.invariant-loop-i
invariant-loop-i l = (length l.state ≡ 25) × ((k : ℕ) → k < l.i → at l.state k ≡ at l.words (4 * k + l.l))
