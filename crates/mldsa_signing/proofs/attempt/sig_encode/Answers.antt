use Rattle.std.proofs.Common.{◌≡◌, ℕ, ◌+◌, ◌*◌, length, ap, ◌∙◌, ap₂, arith}
use Rattle.standards.specs.Lists.{tables, row_at, joined}
use Rattle.standards.specs.MlDsaParts.{bit_pack, z_bits}
use Rattle.sets.specs.Sets.{dsa_numbers}
use Rattle.mldsa_laws.specs.Steps.{sig_encode}
use Rattle.algebra.proofs.Parts.{put_three}
use Rattle.mldsa_signing.proofs.attempt.sig_encode.Goals as goal

pub returns : goal.returns
unfolding sig_encode
returns c =
    let p = dsa_numbers c.args.p in
    let n = length c.args.c_tilde.now in
    let interval = c.of_z-interval.ensures in
    let rows : 32 * c.of_z-interval.result.width.bits * length c.args.z.now ≡ 32 * z_bits p * p.l = ap₂ (λ d m. 32 * d * m) interval.width c.requires.rows.0 in
    let e = n + 32 * c.of_z-interval.result.width.bits * length c.args.z.now in
    let packed = λ (m d b : ℕ). joined (tables m (λ i. bit_pack d b (row_at c.args.z.now i))) in
    put_three n e _ _ _ (e + c.args.p.omega + c.args.p.k) c.args.sig.now c.copy_from_slice.new.self c.bit_pack_rows.new.out c.hint_bit_pack.new.out _ _ _
    (omega arith) (omega arith) (omega arith) (omega arith) (omega arith) (omega arith) c.copy_from_slice.ensures.after
    (c.bit_pack_rows.ensures ∙ (ap₂ (λ m d. packed m d c.of_z-interval.result.top) c.requires.rows.0 interval.width ∙ ap (packed p.l (z_bits p)) interval.top)) c.hint_bit_pack.ensures
