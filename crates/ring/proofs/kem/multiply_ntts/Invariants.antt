use Rattle.std.proofs.Common.{◌*◌}
use Rattle.standards.specs.MlKemParts.{multiply_ntts_at}
use Rattle.algebra.proofs.Words.{Filled}
use Rattle.ring.proofs.kem.multiply_ntts.Given as goal

abbrev pub invariant-loop-i : goal.invariant-loop-i
invariant-loop-i l = Filled (multiply_ntts_at l.initial.f l.g) l.initial.f (2 * l.i) l.f
