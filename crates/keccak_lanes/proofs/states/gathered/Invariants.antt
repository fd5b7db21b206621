use Rattle.std.proofs.Common.{◌≡◌, ℕ, ◌+◌, ◌*◌, ◌<◌, length}
use Rattle.standards.specs.Lists.{at}
use Rattle.keccak_lanes.proofs.states.gathered.Given as goal

-- the lanes below i are there
abbrev pub invariant-loop-i : goal.invariant-loop-i
invariant-loop-i l = record {
  long : length l.words ≡ 100;
  first : (k : ℕ) → k < l.i → at l.words (4 * k) ≡ at l.a k;
  second : (k : ℕ) → k < l.i → at l.words (4 * k + 1) ≡ at l.b k;
  third : (k : ℕ) → k < l.i → at l.words (4 * k + 2) ≡ at l.c k;
  fourth : (k : ℕ) → k < l.i → at l.words (4 * k + 3) ≡ at l.d k;
}
