use Rattle.std.proofs.Common.{◌≡◌, ℕ, ◌<◌, ◌≤◌, cond, eqb, length, get_or}
use Rattle.select.proofs.choose.Given as goal

abbrev pub invariant-loop-i : goal.invariant-loop-i
invariant-loop-i l =
    (length l.x ≡ 32) × ((k : ℕ) → k < l.i → get_or l.x k 0 ≡ cond (eqb l.d 0) (get_or l.initial.x k 0) (get_or l.y k 0)) ×
    ((k : ℕ) → l.i ≤ k → get_or l.x k 0 ≡ get_or l.initial.x k 0)
