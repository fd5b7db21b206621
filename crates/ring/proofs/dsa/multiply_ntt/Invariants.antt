use Rattle.std.proofs.Common.{◌*◌, ◌%◌}
use Rattle.standards.specs.Lists.{at}
use Rattle.algebra.proofs.Words.{Filled}
use Rattle.ring.proofs.dsa.multiply_ntt.Given as goal

abbrev pub invariant-loop-i : goal.invariant-loop-i
invariant-loop-i l = Filled (λ k. (at l.initial.f k * at l.g k) % 8380417) l.initial.f l.i l.f
