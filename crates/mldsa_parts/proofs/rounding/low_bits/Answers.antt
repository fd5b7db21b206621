use Rattle.std.proofs.Common.{ap, ◌∙◌, arith}
use Rattle.standards.specs.MlDsaParts.{low_bits}
use Rattle.mldsa_parts.proofs.Numbers.{number_put}
use Rattle.mldsa_parts.proofs.rounding.low_bits.Goals as goal

pub loop-i-preserved : goal.loop-i-preserved
loop-i-preserved c =
    number_put 8380417 _ _ c.loop-i.i _ _ (omega arith) (λ e. c.low_number.ensures.value ∙ ap (low_bits c.args.gamma2.value) e) c.low_number.ensures.below c.loop-i.invariant
