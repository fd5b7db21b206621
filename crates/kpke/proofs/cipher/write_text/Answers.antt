use Rattle.std.proofs.Common.{◌+◌, ◌*◌, arith}
use Rattle.algebra.proofs.Parts.{put_two}
use Rattle.kpke.proofs.cipher.write_text.Goals as goal

pub returns : goal.returns
returns c =
    let n = 32 * c.args.p.du.bits * c.args.p.k in
    put_two n _ _ (n + 32 * c.args.p.dv.bits) c.args.text.now c.pack_rows.new.out c.pack.new.out _ _ (omega arith) (omega arith) (omega arith) (omega arith)
    (rw c.requires.rows at c.pack_rows.ensures) c.pack.ensures
