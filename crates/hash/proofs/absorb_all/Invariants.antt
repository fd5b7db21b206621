use Rattle.std.proofs.Common.{◌≡◌, ℕ, List, ◌++◌, drop}
use Rattle.hash.specs.Streams.{message}
use Rattle.hash.proofs.absorb_all.Given as goal

abbrev pub invariant-loop-part : goal.invariant-loop-part
invariant-loop-part g l =
    (m : List ℕ) → g.A.Absorb.stream l.x (message (drop l.part-index l.parts) ++ m) ≡ g.A.Absorb.stream l.initial.x (message l.parts ++ m)
