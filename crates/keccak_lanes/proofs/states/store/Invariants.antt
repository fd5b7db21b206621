use Rattle.std.proofs.Common.{◌≡◌, ℕ, ◌+◌, ◌*◌, ◌<◌, length}
use Rattle.standards.specs.Lists.{at, row_at}
use Rattle.keccak_lanes.proofs.states.store.Given as goal

-- the vectors below i are there
abbrev pub invariant-loop-i : goal.invariant-loop-i
invariant-loop-i l = record {
  long : length l.words ≡ 100;
  first : (k : ℕ) → k < l.i → at l.words (4 * k) ≡ at (row_at l.lanes k) 0;
  second : (k : ℕ) → k < l.i → at l.words (4 * k + 1) ≡ at (row_at l.lanes k) 1;
  third : (k : ℕ) → k < l.i → at l.words (4 * k + 2) ≡ at (row_at l.lanes k) 2;
  fourth : (k : ℕ) → k < l.i → at l.words (4 * k + 3) ≡ at (row_at l.lanes k) 3;
}
