use Rattle.std.proofs.Common.{◌+◌, ◌*◌, length, ◌∙◌, arith}
use Rattle.algebra.proofs.Parts.{put_four}
use Rattle.mlkem.proofs.kem.write_dk.Goals as goal

pub returns : goal.returns
returns g c =
    let k = length c.args.s.now in
    put_four (384 * k) (768 * k + 32) (768 * k + 64) _ _ _ _ (768 * k + 96) c.args.dk.now
    c.pack_rows.new.out c.copy_from_slice.new.self c.copy_from_slice-2.new.self c.copy_from_slice-3.new.self _ _ _ _
    (omega arith) (omega arith) (omega arith) (omega arith) (omega arith) (omega arith) (omega arith) (omega arith)
    c.pack_rows.ensures c.copy_from_slice.ensures.after (c.copy_from_slice-2.ensures.after ∙ c.sha3_256-h.ensures) c.copy_from_slice-3.ensures.after
