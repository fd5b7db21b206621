use Rattle.std.proofs.Common.{ap, ◌∙◌, ap₂, arith}
use Rattle.standards.specs.Ring.{add_p}
use Rattle.standards.specs.MlKemParts.{ntt}
use Rattle.algebra.proofs.RowArrays.{fill_row}
use Rattle.mlkem.proofs.kem.t_rows.Goals as goal

pub loop-i-preserved : goal.loop-i-preserved
loop-i-preserved g c =
    fill_row c.args.p.k 3329 _ c.loop-i.t c.loop-i.i _ (omega arith)
    (c.add.ensures.value ∙ ap₂ (add_p 3329) (rw c.requires.rows.0 at c.dot.ensures.value) (c.ntt.ensures.value ∙ ap ntt c.small_poly.ensures.value)) c.add.ensures.below c.loop-i.invariant
