use Rattle.std.proofs.Common.{◌≡◌, ◌+◌, ◌-◌, ◌*◌, ◌/◌, ◌%◌, ◌^◌, length, set, sym, ap, ◌∙◌, subst, mul-le-mul_left, arith, bit_and}
use Rattle.std.proofs.lemmas.Nat.{and_mask}
use Rattle.standards.specs.Lists.{at}
use Rattle.algebra.proofs.Windows.{whole, digit, masked, placed}
use Rattle.algebra.proofs.Streams.{Waiting, comes, goes, all_gone}
use Rattle.algebra.proofs.Packing.{pack_is, packed}
use Rattle.packing.proofs.eights.pack_eight.Goals as goal

pub loop-have-init : goal.loop-have-init
loop-have-init g c =
    let d = g.row.D in
    let xs = c.args.x.now in
    let s = c.loop-i in
    let x = c.from.result in
    let is : x ≡ at xs s.i = omega arith in
    let in_place : (bit_and x ((1 * 2 ^ d) % 2 ^ 64 - 1) * 2 ^ s.have) % 2 ^ 64 ≡ (x % 2 ^ d) * 2 ^ s.have =
    ap (λ y. (y * 2 ^ s.have) % 2 ^ 64) (masked x d (omega arith)) ∙ placed x d s.have (omega arith) in
    (subst (λ y. Waiting (whole d xs) d 8 (s.i + 1) s.at (s.have + d) (s.bits + y) s.out) (sym in_place) (comes (x % 2 ^ d) (ap (λ y. y % 2 ^ d) is ∙ sym (digit d xs s.i)) s.invariant.0), omega arith)

pub bounds-out-at : goal.bounds-out-at
bounds-out-at g c = omega (arith, c.loop-have.invariant.0.place, mul-le-mul_left {m = c.loop-i.i + 1} {n = 8} g.row.D (omega arith))

pub loop-have-preserved : goal.loop-have-preserved
loop-have-preserved g c =
    let d = g.row.D in
    let w = whole d c.args.x.now in
    let s = c.loop-have in
    let more : Waiting w d 8 (c.loop-i.i + 1) s.at (8 + (s.have - 8)) s.bits s.out =
    subst (λ y. Waiting w d 8 (c.loop-i.i + 1) s.at y s.bits s.out) {x = s.have} {y = 8 + (s.have - 8)} (omega arith) s.invariant.0 in
    (subst (λ y. Waiting w d 8 (c.loop-i.i + 1) (s.at + 1) (s.have - 8) (s.bits / 256) (set s.out s.at y)) (sym (and_mask s.bits 8)) (goes (bounds-out-at g c) more), omega arith)

pub returns : goal.returns
returns g c =
    let d = g.row.D in
    let xs = c.args.x.now in
    let s = c.loop-i in
    let all : s.at ≡ d = omega (arith, s.invariant.0.place, ap (λ y. d * y) {x = s.i} {y = 8} (omega arith)) in
    let long : d * length xs ≡ d * 8 = ap (λ y. d * y) {x = length xs} {y = 8} (omega arith) in
    all_gone (omega arith) s.invariant.0 ∙ (ap (packed d xs) {x = s.at} {y = (d * length xs) / 8} (omega (arith, all, long)) ∙ sym (pack_is d xs (omega arith)))
