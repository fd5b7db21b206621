use Rattle.standards.specs.Lists.{at}
use Rattle.standards.specs.MlKemParts.{compress}
use Rattle.algebra.proofs.Words.{Filled}
use Rattle.mlkem_parts.proofs.rounding.compress.Given as goal

abbrev pub invariant-loop-i : goal.invariant-loop-i
invariant-loop-i l = Filled (λ k. compress l.d (at l.initial.f k)) l.initial.f l.i l.f
