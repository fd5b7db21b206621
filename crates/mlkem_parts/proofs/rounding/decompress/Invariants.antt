use Rattle.standards.specs.Lists.{at}
use Rattle.standards.specs.MlKemParts.{decompress}
use Rattle.algebra.proofs.Words.{Filled}
use Rattle.mlkem_parts.proofs.rounding.decompress.Given as goal

abbrev pub invariant-loop-i : goal.invariant-loop-i
invariant-loop-i l = Filled (λ k. decompress l.d (at l.initial.f k)) l.initial.f l.i l.f
