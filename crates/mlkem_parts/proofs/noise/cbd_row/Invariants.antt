use Rattle.standards.specs.Lists.{at}
use Rattle.algebra.proofs.Words.{Filled}
use Rattle.mlkem_parts.specs.Bits.{bits_less}
use Rattle.mlkem_parts.proofs.noise.cbd_row.Given as goal

abbrev pub invariant-loop-i : goal.invariant-loop-i
invariant-loop-i g l = Filled (λ k. bits_less g.row.ETA (at l.initial.f k)) l.initial.f l.i l.f
