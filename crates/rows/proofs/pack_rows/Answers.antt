use Rattle.std.proofs.Common.{◌*◌, [], length, refl, arith}
use Rattle.std.proofs.lemmas.List.{get_or_read_under}
use Rattle.rows.proofs.PackedRows.{packed_next}
use Rattle.rows.proofs.pack_rows.Goals as goal

pub loop-i-preserved : goal.loop-i-preserved
loop-i-preserved g c =
    packed_next (32 * c.args.d.bits) c.loop-i.i (length c.args.v.now) _ c.loop-i.out c.pack.new.out c.loop-i-test.true (omega arith) (omega arith)
    (rw (get_or_read_under _ _ (length c.args.v.now) _ [] c.index-v-i.is (omega arith) refl) at c.pack.ensures) c.loop-i.invariant
