use Rattle.std.proofs.Common.{◌≡◌, ℕ, ◌+◌, ◌-◌, ◌*◌, List, length, sym, refl, ap, ◌∙◌, arith}
use Rattle.standards.specs.Lists.{row_at, tables, joined}
use Rattle.standards.specs.MlDsaParts.{bit_pack}
use Rattle.algebra.proofs.Parts.{put_three}
use Rattle.mldsa_keys.proofs.write_rows.Goals as goal

-- rows that are packed with numbers that are known
packed_by : (n m d e b c : ℕ) (v : List (List ℕ)) → n ≡ m → d ≡ e → b ≡ c → joined (tables n (λ i. bit_pack d b (row_at v i))) ≡ joined (tables m (λ i. bit_pack e c (row_at v i)))
packed_by n m d e b c v is width top = rw (is, width, top) refl

pub returns : goal.returns
returns c =
    let p = c.args.p in
    let is = c.of_s-small.ensures in
    let w = 32 * c.of_s-small.result.width.bits in
    let n = w * p.l in
    let m = n + w * p.k in
    let whole : length c.args.out.now ≡ 32 * c.of_s-small.result.width.bits * (p.l + p.k) + 416 * p.k = c.requires.long ∙ ap (λ d. 32 * d * (p.l + p.k) + 416 * p.k) (sym is.width) in
    put_three n m (n - 0) (m - n) _ (m + 416 * p.k) c.args.out.now c.bit_pack_rows.new.out c.bit_pack_rows-2.new.out c.bit_pack_rows-3.new.out _ _ _
    (omega arith) (omega arith) (omega arith) (omega (arith, whole)) (omega (arith, whole)) (omega (arith, whole))
    (c.bit_pack_rows.ensures ∙ packed_by _ p.l _ _ _ _ c.args.s1.now (omega arith) is.width is.top)
    (c.bit_pack_rows-2.ensures ∙ packed_by _ p.k _ _ _ _ c.args.s2.now (omega arith) is.width is.top)
    (c.bit_pack_rows-3.ensures ∙ packed_by _ p.k _ _ _ _ c.args.t0.now (omega arith) c.of_t0.ensures.width c.of_t0.ensures.top)
