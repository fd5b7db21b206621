use Rattle.std.proofs.Common.{◌≡◌, ◌+◌, ◌-◌, ◌/◌, ◌^◌, ◌<◌, set, sym, ap, ◌∙◌, subst, mod-eq_of_lt, mul-le-mul_left, arith, length-set}
use Rattle.std.proofs.lemmas.Nat.{shl_whole}
use Rattle.standards.specs.Lists.{at}
use Rattle.algebra.proofs.Windows.{whole, digit, masked}
use Rattle.algebra.proofs.Streams.{Waiting, comes, goes, all_gone}
use Rattle.algebra.proofs.Packing.{unpack_is, unpacked}
use Rattle.packing.proofs.eights.unpack_eight.Goals as goal

pub bounds-bs-at : goal.bounds-bs-at
bounds-bs-at g c = omega (arith, c.loop-have.invariant.0.place, mul-le-mul_left {m = c.loop-i.i + 1} {n = 8} g.row.D (omega arith))

pub loop-have-preserved : goal.loop-have-preserved
loop-have-preserved g c =
    let bs = c.args.bs.now in
    let s = c.loop-have in
    let b = c.from.result in
    let is : b ≡ at bs s.at = omega arith in
    let byte : at bs s.at < 2 ^ 8 = omega arith in (
      subst (λ y. Waiting (whole 8 bs) 8 g.row.D (s.at + 1) c.loop-i.i (s.have + 8) (s.bits + y) c.loop-i.x) (sym (shl_whole b 8 s.have 64 (omega arith) (omega arith)))
          (comes b (is ∙ sym (digit 8 bs s.at ∙ mod-eq_of_lt byte)) s.invariant.0),
      omega arith,
    )

pub loop-i-preserved : goal.loop-i-preserved
loop-i-preserved g c =
    let d = g.row.D in
    let v = whole 8 c.args.bs.now in
    let s = c.loop-have in
    let i = c.loop-i.i in
    let x = c.loop-i.x in
    let more : Waiting v 8 d s.at i (d + (s.have - d)) s.bits x =
    subst (λ y. Waiting v 8 d s.at i y s.bits x) {x = s.have} {y = d + (s.have - d)} (omega arith) s.invariant.0 in
    (subst (λ y. Waiting v 8 d s.at (i + 1) (s.have - d) (s.bits / 2 ^ d) (set x i y)) (sym (masked s.bits d (omega arith))) (goes (omega arith) more), omega arith, simp length-set (omega arith))

pub returns : goal.returns
returns g c = all_gone (omega arith) c.loop-i.invariant.0 ∙ (ap (λ n. unpacked g.row.D n c.args.bs.now) (omega arith) ∙ sym (unpack_is g.row.D 8 c.args.bs.now))
