use Rattle.std.proofs.Common.{◌≡◌, ℕ, ◌+◌, ◌<◌, length}
use Rattle.standards.specs.Lists.{at}
use Rattle.fips202_laws.specs.Sponges.{mixed_up_to}
use Rattle.fips202.proofs.sponge.mix_lanes.Given as goal

-- i lanes from `first` on have taken in those of the part
abbrev pub invariant-loop-i : goal.invariant-loop-i
invariant-loop-i l =
    (length l.lanes ≡ 25) × ((k : ℕ) → k < 25 → at l.lanes k ≡ mixed_up_to l.first (l.first + l.i) l.part l.initial.lanes k)
