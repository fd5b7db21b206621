use Rattle.std.proofs.Common.{T}
use Rattle.standards.specs.Lists.{at, all_below}
use Rattle.standards.specs.MlDsaParts.{use_hint}
use Rattle.algebra.proofs.Words.{Filled}
use Rattle.mldsa_parts.proofs.rounding.use_hint.Given as goal

abbrev pub invariant-loop-i : goal.invariant-loop-i
invariant-loop-i l = Filled (λ k. use_hint l.gamma2.value (at l.h k) (at l.initial.f k)) l.initial.f l.i l.f × T (all_below 8380417 l.f)
