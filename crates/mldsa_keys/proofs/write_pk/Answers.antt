use Rattle.std.proofs.Common.{◌+◌, ◌*◌, length, arith}
use Rattle.algebra.proofs.Parts.{put_two}
use Rattle.mldsa_keys.proofs.write_pk.Goals as goal

pub returns : goal.returns
returns c =
    put_two 32 32 _ (32 + 320 * length c.args.t1.now) c.args.pk.now c.copy_from_slice.new.self c.pack_rows.new.out _ _ (omega arith) (omega arith) (omega arith) (omega arith)
    c.copy_from_slice.ensures.after c.pack_rows.ensures
