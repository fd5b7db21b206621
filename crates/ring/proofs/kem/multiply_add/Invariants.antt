use Rattle.std.proofs.Common.{◌+◌, ◌*◌, ◌%◌}
use Rattle.standards.specs.Lists.{at}
use Rattle.standards.specs.MlKemParts.{multiply_ntts}
use Rattle.algebra.proofs.Words.{Filled}
use Rattle.ring.proofs.kem.multiply_add.Given as goal

abbrev pub invariant-loop-i : goal.invariant-loop-i
invariant-loop-i l = Filled (λ k. (at (multiply_ntts l.f l.g) k + at l.initial.out k) % 3329) l.initial.out (2 * l.i) l.out
