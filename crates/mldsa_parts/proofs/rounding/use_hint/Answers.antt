use Rattle.std.proofs.Common.{ap, ◌∙◌, arith}
use Rattle.standards.specs.Lists.{at}
use Rattle.standards.specs.MlDsaParts.{use_hint}
use Rattle.algebra.proofs.Words.{filled_all}
use Rattle.mldsa_parts.proofs.Numbers.{number_put}
use Rattle.mldsa_parts.proofs.rounding.use_hint.Goals as goal

pub loop-i-preserved : goal.loop-i-preserved
loop-i-preserved c =
    number_put 8380417 _ _ c.loop-i.i _ _ (omega arith) (λ e. c.use_hint_number.ensures.value ∙ ap (use_hint c.args.gamma2.value (at c.args.h.now c.loop-i.i)) e) c.use_hint_number.ensures.below c.loop-i.invariant

pub returns-clause-value : goal.returns-clause-value
returns-clause-value c = filled_all _ c.args.f.now c.loop-i.f c.loop-i.i (omega arith) c.loop-i.invariant.0
