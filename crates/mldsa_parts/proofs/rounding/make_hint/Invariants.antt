use Rattle.std.proofs.Common.{◌+◌, ◌-◌, ◌%◌}
use Rattle.standards.specs.Lists.{at}
use Rattle.standards.specs.MlDsaParts.{make_hint}
use Rattle.algebra.proofs.Words.{Filled}
use Rattle.mldsa_parts.proofs.rounding.make_hint.Given as goal

abbrev pub invariant-loop-i : goal.invariant-loop-i
invariant-loop-i l =
    Filled (λ k. make_hint l.gamma2.value ((0 + (8380417 - at l.ct k % 8380417)) % 8380417) ((at l.v k + at l.ct k) % 8380417)) l.initial.h l.i l.h
