use Rattle.std.proofs.Common.{◌≡◌, ℕ, ◌*◌, ◌<◌, length}
use Rattle.standards.specs.Lists.{at}
use Rattle.standards.specs.Fips202.{state_byte}
use Rattle.fips202.proofs.sponge.unpacked.Given as goal

-- the bytes of the lanes below i stand there
abbrev pub invariant-loop-i : goal.invariant-loop-i
invariant-loop-i l = (length l.bytes ≡ 200) × ((k : ℕ) → k < 8 * l.i → at l.bytes k ≡ state_byte l.lanes k)
