use Rattle.std.proofs.Common.{◌≡◌, ℕ, ◌+◌, ◌*◌, ◌<◌, [], ◌∷◌, length}
use Rattle.standards.specs.Lists.{at, row_at}
use Rattle.keccak_lanes.proofs.states.loaded.Given as goal

-- the vectors below i are there
abbrev pub invariant-loop-i : goal.invariant-loop-i
invariant-loop-i l =
    let w : ℕ → ℕ = at l.words in (length l.lanes ≡ 25) × ((k : ℕ) → k < l.i → row_at l.lanes k ≡ w (4 * k) ∷ w (4 * k + 1) ∷ w (4 * k + 2) ∷ w (4 * k + 3) ∷ [])
