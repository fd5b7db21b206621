use Rattle.std.proofs.Common.{◌∙◌, ap₂, arith}
use Rattle.standards.specs.Ring.{sub_p}
use Rattle.mldsa_laws.proofs.RowLoops.{rows_next}
use Rattle.mldsa_vectors.proofs.products.sub_products.Goals as goal

pub loop-i-preserved : goal.loop-i-preserved
loop-i-preserved c =
    rows_next 8380417 _ c.args.v.now c.loop-i.i c.loop-i.v _ (omega arith)
    (c.sub.ensures.value ∙ ap₂ (sub_p 8380417) (c.loop-i.invariant.rest c.loop-i.i (omega arith)) c.product.ensures.value) c.sub.ensures.below c.loop-i.invariant
