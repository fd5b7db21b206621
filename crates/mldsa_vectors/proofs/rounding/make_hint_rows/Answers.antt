use Rattle.std.proofs.Common.{T, sym, subst, arith}
use Rattle.standards.specs.Lists.{all_below}
use Rattle.mldsa_laws.proofs.RowLoops.{rows_next, hints_small}
use Rattle.mldsa_vectors.proofs.rounding.make_hint_rows.Goals as goal

pub loop-i-preserved : goal.loop-i-preserved
loop-i-preserved c =
    rows_next 2 _ c.args.hs.now c.loop-i.i c.loop-i.hs _ (omega arith)
    c.make_hint.ensures (subst (λ r. T (all_below 2 r)) (sym c.make_hint.ensures) (hints_small _ _ _)) c.loop-i.invariant
