use Rattle.std.proofs.Common.{◌*◌, length, arith}
use Rattle.rows.proofs.PackedRows.{packed_none, packed_next}
use Rattle.mldsa_vectors.proofs.encodings.bit_pack_rows.Goals as goal

pub loop-i-init : goal.loop-i-init
loop-i-init c = packed_none (32 * c.args.interval.width.bits) _ c.args.out.now

pub loop-i-preserved : goal.loop-i-preserved
loop-i-preserved c = packed_next (32 * c.args.interval.width.bits) c.loop-i.i (length c.args.v.now) _ c.loop-i.out c.bit_pack.new.out (omega arith) (omega arith) (omega arith) c.bit_pack.ensures c.loop-i.invariant
