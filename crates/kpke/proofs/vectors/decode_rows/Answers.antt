use Rattle.std.proofs.Common.{◌*◌, ap, ◌∙◌, arith, length}
use Rattle.standards.specs.MlKemParts.{byte_decode12}
use Rattle.algebra.proofs.Parts.{part_is}
use Rattle.algebra.proofs.RowArrays.{fill_row}
use Rattle.kpke.proofs.vectors.decode_rows.Goals as goal

pub loop-i-preserved : goal.loop-i-preserved
loop-i-preserved c =
    fill_row (length c.args.v.now) 3329 _ c.loop-i.v c.loop-i.i _ (omega arith)
    (c.byte_decode_12.ensures.value ∙ ap byte_decode12 (part_is c.args.key.now (384 * c.loop-i.i) 384)) c.byte_decode_12.ensures.below c.loop-i.invariant
