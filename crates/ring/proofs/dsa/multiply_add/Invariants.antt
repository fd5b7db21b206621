use Rattle.std.proofs.Common.{◌+◌, ◌%◌}
use Rattle.standards.specs.Lists.{at}
use Rattle.standards.specs.MlDsaParts.{multiply_ntt}
use Rattle.algebra.proofs.Words.{Filled}
use Rattle.ring.proofs.dsa.multiply_add.Given as goal

abbrev pub invariant-loop-i : goal.invariant-loop-i
invariant-loop-i l = Filled (λ k. (at (multiply_ntt l.f l.g) k + at l.initial.out k) % 8380417) l.initial.out l.i l.out
