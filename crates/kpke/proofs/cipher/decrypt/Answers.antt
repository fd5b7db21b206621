use Rattle.std.proofs.Common.{◌≡◌, ◌*◌, length, ap, ◌∙◌, arith}
use Rattle.standards.specs.Bytes.{pack, unpack}
use Rattle.standards.specs.MlKemParts.{ntt_inv, compress_p, decompress_p}
use Rattle.algebra.proofs.Parts.{part_rest}
use Rattle.sets.specs.Sets.{kem_numbers}
use Rattle.kpke.proofs.Texts.{w_is}
use Rattle.kpke.proofs.cipher.decrypt.Goals as goal

pub returns : goal.returns
returns c =
    let p = c.args.p in
    let n : length c.text_rows.new.v ≡ p.k = omega arith in
    let v = c.decompress.ensures.value ∙ ap (decompress_p p.dv.bits) (c.unpack.ensures ∙ ap (unpack p.dv.bits 256) (part_rest c.args.c.now (32 * p.du.bits * p.k) (32 * p.dv.bits) c.requires.long)) in
    c.pack.ensures ∙ ap (pack 1) (c.compress.ensures.value ∙ ap (compress_p 1) (c.sub.ensures.value ∙
    w_is (kem_numbers p) c.args.dk.now c.args.c.now c.decode_rows.new.v c.text_rows.new.v _ _ (λ j l. c.decode_rows.ensures.value j (omega arith)) c.text_rows.ensures.value v
    (c.ntt_inverse.ensures.value ∙ ap ntt_inv (rw n at c.dot.ensures.value))))
