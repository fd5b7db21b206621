use Rattle.std.proofs.Common.{◌≡◌, ℕ, ◌+◌, ◌*◌, ◌<◌, map, length}
use Rattle.standards.specs.Lists.{at}
use Rattle.packing.proofs.coefficients.eight.Given as goal

abbrev pub invariant-loop-i : goal.invariant-loop-i
invariant-loop-i g l = (length l.x ≡ 8) × ((k : ℕ) → k < l.i → at l.x k ≡ at (map g.W.Word.value l.f) (8 * l.g + k))
