use Rattle.std.proofs.Common.{◌%◌}
use Rattle.standards.specs.Lists.{at}
use Rattle.algebra.proofs.Words.{Filled}
use Rattle.mlkem_parts.proofs.encoding.byte_decode_12.Given as goal

abbrev pub invariant-loop-i : goal.invariant-loop-i
invariant-loop-i l = Filled (λ k. at l.initial.f k % 3329) l.initial.f l.i l.f
