use Rattle.std.proofs.Common.{◌^◌, ap, ◌∙◌, ap₂, arith}
use Rattle.standards.specs.Ring.{add_p}
use Rattle.standards.specs.MlKemParts.{ntt_inv, compress_p}
use Rattle.algebra.proofs.RowArrays.{fill_row}
use Rattle.kpke.proofs.cipher.u_rows.Goals as goal

pub loop-i-preserved : goal.loop-i-preserved
loop-i-preserved g c =
    let p = c.args.p in
    fill_row p.k (2 ^ p.du.bits) _ c.loop-i.u c.loop-i.i _ (omega arith)
    (c.compress.ensures.value ∙ ap (compress_p p.du.bits) (c.add.ensures.value ∙ ap₂ (add_p 3329) (c.ntt_inverse.ensures.value ∙ ap ntt_inv (rw c.requires.rows.0 at c.dot.ensures.value)) c.small_poly.ensures.value))
    c.compress.ensures.below c.loop-i.invariant
