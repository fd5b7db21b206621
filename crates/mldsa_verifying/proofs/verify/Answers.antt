use Rattle.std.proofs.Common.{◌≡◌, ◌-◌, true, ◌&&◌, take, sym, ap, ◌∙◌, arith, rules}
use Rattle.standards.specs.Lists.{tables}
use Rattle.standards.specs.MlDsa.{hints_rise, hint_padding_zero, hint_row}
use Rattle.sets.specs.Sets.{dsa_numbers}
use Rattle.mldsa_verifying.proofs.Verdict.{verdict_is}
use Rattle.mldsa_verifying.proofs.verify.Goals as goal

pub returns : goal.returns
returns g c =
    let p = dsa_numbers c.args.p in
    let s = c.args.sig.now in
    let hints : true ≡ hints_rise p s p.k && hint_padding_zero p s = search rules in
    let hs : c.hint_bit_unpack.new.hs ≡ tables p.k (hint_row p s) = search rules in
    verdict_is g.H.Hash.hashes p c.args.pk.now c.args.ctx.now c.args.message.now s c.hint_bit_unpack.new.hs c.unpack_z.new.z c.ntt_rows.new.v c.approximate.new.w c.use_hint_rows.new.v _ _ _ _ _
    (omega arith) (omega arith) c.from.ensures c.requires.key c.requires.context c.requires.long hints (sym c.if-not-unpack_z.false ∙ c.unpack_z.ensures.short)
    hs c.unpack_z.ensures.value c.ntt_rows.ensures.value (ap (λ n. take n s) {x = c.c_length.result - 0} (omega (arith, c.c_length.ensures.value))) c.approximate.ensures.value
    c.use_hint_rows.ensures c.is_commitment_hash.ensures
