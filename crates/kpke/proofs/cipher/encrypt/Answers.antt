use Rattle.std.proofs.Common.{arith}
use Rattle.sets.specs.Sets.{kem_numbers}
use Rattle.kpke.proofs.Texts.{text_is}
use Rattle.kpke.proofs.cipher.encrypt.Goals as goal

pub returns : goal.returns
returns g c =
    text_is g.H.Hash.hashes (kem_numbers c.args.p) c.args.ek.now c.args.m.now c.args.r.now c.args.a.now c.decode_rows.new.v c.small_rows.new.v c.u_rows.new.u c.v_poly.new.f c.write_text.new.text
    c.requires.entries (λ j l. c.decode_rows.ensures.value j (omega arith)) (λ j l. c.small_rows.ensures.value j (omega arith)) c.u_rows.ensures c.v_poly.ensures c.write_text.ensures
