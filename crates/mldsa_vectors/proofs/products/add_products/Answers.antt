use Rattle.std.proofs.Common.{◌∙◌, ap₂, arith}
use Rattle.standards.specs.Ring.{add_p}
use Rattle.mldsa_laws.proofs.RowLoops.{rows_next}
use Rattle.mldsa_vectors.proofs.products.add_products.Goals as goal

pub loop-i-preserved : goal.loop-i-preserved
loop-i-preserved c =
    rows_next 8380417 _ c.args.v.now c.loop-i.i c.loop-i.v _ (omega arith)
    (c.add.ensures.value ∙ ap₂ (add_p 8380417) (c.loop-i.invariant.rest c.loop-i.i (omega arith)) c.product.ensures.value) c.add.ensures.below c.loop-i.invariant
