use Rattle.std.proofs.Common.{◌≡◌, ℕ, List, ◌++◌, length}
use Rattle.fips202.specs.States.{absorbed}
use Rattle.fips202.proofs.sponge.Sponge.absorb.Given as goal

-- what is left gives from here what the part gives from where it began
abbrev pub invariant-loop-rest : goal.invariant-loop-rest
invariant-loop-rest g l =
    (suffix : ℕ) (m : List ℕ) → absorbed suffix l.self (l.rest ++ m) ≡ absorbed suffix l.fn.self (l.fn.part ++ m)

abbrev pub decreases-loop-rest : goal.decreases-loop-rest
decreases-loop-rest g l = length l.rest
