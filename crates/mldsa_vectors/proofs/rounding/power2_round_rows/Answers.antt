use Rattle.std.proofs.Common.{T, sym, ap, ◌∙◌, subst, arith}
use Rattle.standards.specs.Lists.{all_below}
use Rattle.standards.specs.MlDsaParts.{power2_round1_p, power2_round0_p}
use Rattle.mldsa_laws.proofs.RowLoops.{rows_next, rows_waiting, rounded_small}
use Rattle.mldsa_vectors.proofs.rounding.power2_round_rows.Goals as goal

pub loop-i-preserved : goal.loop-i-preserved
loop-i-preserved c =
    let was = c.loop-i.invariant.0.rest c.loop-i.i (omega arith) in
    let waiting = rows_waiting 8380417 _ c.args.t.now c.loop-i.i c.loop-i.t (omega arith) c.requires.below c.loop-i.invariant.0 in (
      rows_next 8380417 _ c.args.t.now c.loop-i.i c.loop-i.t _ (omega arith)
          (c.power2_round.ensures.high ∙ ap power2_round1_p was) (subst (λ r. T (all_below 8380417 r)) (sym c.power2_round.ensures.high) (rounded_small _ waiting)) c.loop-i.invariant.0,
      rows_next 8380417 _ c.args.low.now c.loop-i.i c.loop-i.low _ (omega arith)
          (c.power2_round.ensures.low ∙ ap power2_round0_p was) c.power2_round.ensures.below c.loop-i.invariant.1,
    )
