use Rattle.std.proofs.Common.{◌+◌, ◌-◌, ◌%◌}
use Rattle.standards.specs.Lists.{at}
use Rattle.algebra.proofs.Words.{Filled}
use Rattle.mldsa_parts.proofs.encoding.bit_unpack.Given as goal

abbrev pub invariant-loop-i : goal.invariant-loop-i
invariant-loop-i l = Filled (λ k. (l.interval.top + (8380417 - at l.initial.f k)) % 8380417) l.initial.f l.i l.f
