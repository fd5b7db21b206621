use Rattle.std.proofs.Common.{◌+◌, ◌-◌, ◌≤◌, length, drop, replicate, ap, ◌∙◌, arith}
use borrow.Rule.Slice.PartMut.{put_mid}
use Rattle.std.proofs.lemmas.List.{length-drop, length-take-le}
use Rattle.standards.specs.Lists.{row_at}
use Rattle.mldsa_hints.proofs.PlacesOut.{rows_room, rows_next, rows_last, places_put}
use Rattle.mldsa_hints.proofs.hint_bit_pack.Goals as goal

pub pack_row-index-requires : goal.pack_row-index-requires
pack_row-index-requires c =
    let om = c.args.p.omega in
    let n = c.loop-i.index in
    let room : om - n ≤ length (drop n c.loop-i.out) = simp length-drop (omega arith) in
    omega (arith, length-take-le (om - n) (drop n c.loop-i.out) room, rows_room c.args.hs.now om c.loop-i.i n c.loop-i.out (omega arith) (omega arith) c.requires.few c.loop-i.invariant.1)

pub loop-i-preserved : goal.loop-i-preserved
loop-i-preserved c =
    let hs = c.args.hs.now in
    let om = c.args.p.omega in
    let i = c.loop-i.i in
    let n = c.loop-i.index in
    let m = c.pack_row-index.result in
    let fits : n + m ≤ om =
    omega (arith, c.pack_row-index.ensures.count, rows_room hs om i n c.loop-i.out (omega arith) (omega arith) c.requires.few c.loop-i.invariant.1) in
    let room : om - n ≤ length (drop n c.loop-i.out) = simp length-drop (omega arith) in
    let long = c.pack_row-index.auto.out ∙ length-take-le (om - n) (drop n c.loop-i.out) room in
    let put = places_put (row_at hs i) c.loop-i.out c.pack_row-index.new.out _ om n m (omega arith) (omega arith) c.pack_row-index.ensures.count c.pack_row-index.ensures.value long in
    let t = rows_next hs om i n (n + m) c.loop-i.out (put_mid n (om - n) c.loop-i.out c.pack_row-index.new.out) (omega arith) (omega arith) fits
    (ap (λ k. n + k) c.pack_row-index.ensures.count) put.0 put.1 c.loop-i.invariant.1 c.loop-i.invariant.2 in
    (omega arith, t.0, t.1)

pub returns : goal.returns
returns c =
    let om = c.args.p.omega in
    let n = c.loop-i.index in
    let room : om - n ≤ length (drop n c.loop-i.out) = simp length-drop (omega arith) in
    let zeros = c.fill.ensures.after (λ y e. e) ∙ ap (λ k. replicate k 0) (length-take-le (om - n) (drop n c.loop-i.out) room) in
    ap (put_mid n (om - n) c.loop-i.out) zeros ∙ rows_last c.args.hs.now om c.loop-i.i n c.loop-i.out (omega arith) c.loop-i.invariant.0 (omega arith) c.loop-i.invariant.1 c.loop-i.invariant.2
