use Rattle.std.proofs.Common.{◌≡◌, ◌-◌, ◌*◌, length, take, ap, ◌∙◌, ap₂, arith}
use Rattle.standards.specs.Lists.{same}
use Rattle.standards.specs.Bytes.{pack}
use Rattle.algebra.proofs.RowArrays.{joined_same}
use Rattle.mlkem.proofs.key_types.repacked.Goals as goal

pub returns : goal.returns
returns c =
    let k = c.args.p.k in
    let n : length c.decode_rows.new.v ≡ k = omega arith in
    c.differ.ensures ∙ ap₂ same
    (rw n at c.pack_rows.ensures ∙ joined_same k _ _ (λ i l. ap (pack 12) (c.decode_rows.ensures.value i (omega arith))))
    (ap (λ n. take n c.args.ek.now) {x = 384 * k - 0} {y = 384 * k} (omega arith))
