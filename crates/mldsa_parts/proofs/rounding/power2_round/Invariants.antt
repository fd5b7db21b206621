use Rattle.standards.specs.Lists.{at}
use Rattle.standards.specs.MlDsaParts.{power2_round1, power2_round0}
use Rattle.algebra.proofs.Words.{Filled}
use Rattle.mldsa_parts.proofs.rounding.power2_round.Given as goal

abbrev pub invariant-loop-i : goal.invariant-loop-i
invariant-loop-i l = Filled (λ k. power2_round1 (at l.initial.t k)) l.initial.t l.i l.t × Filled (λ k. power2_round0 (at l.initial.t k)) l.initial.low l.i l.low
