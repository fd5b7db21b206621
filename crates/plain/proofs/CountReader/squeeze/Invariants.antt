use Rattle.std.proofs.Common.{◌≡◌, ℕ, ◌<◌}
use Rattle.standards.specs.Lists.{at}
use Rattle.plain.specs.Counting.{counted}
use Rattle.plain.proofs.CountReader.squeeze.Given as goal

-- the bytes so far are counted from where it began, and the next one is
abbrev pub invariant-loop-x : goal.invariant-loop-x
invariant-loop-x l =
    let was = l.fn.self in
    (l.self.step ≡ was.step) × (l.self.next ≡ counted was.next was.step l.x-index) × ((k : ℕ) → k < l.x-index → at l.out k ≡ counted was.next was.step k)
