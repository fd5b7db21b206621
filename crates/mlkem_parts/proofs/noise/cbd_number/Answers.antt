use Rattle.std.proofs.Common.{◌≡◌, ◌+◌, ◌/◌, ◌%◌, ◌^◌, sym, refl, ◌∙◌, ap₂, arith, bit_and}
use Rattle.std.proofs.lemmas.Nat.{and_mask}
use Rattle.standards.specs.Lists.{sum_to}
use Rattle.algebra.proofs.Sums.{sum_more}
use Rattle.mlkem_parts.proofs.noise.cbd_number.Goals as goal

pub loop-j-init : goal.loop-j-init
unfolding sum_to
loop-j-init g c = (refl, refl, omega arith, omega arith)

pub loop-j-preserved : goal.loop-j-preserved
loop-j-preserved g c =
    let v = c.args.v in
    let j = c.loop-j.j in
    let e = g.row.ETA in
    let a : bit_and (v / 2 ^ j) 1 ≡ (v / 2 ^ j) % 2 = and_mask (v / 2 ^ j) 1 in
    let b : bit_and (v / 2 ^ (e + j)) 1 ≡ (v / 2 ^ (e + j)) % 2 = and_mask (v / 2 ^ (e + j)) 1 in (
      ap₂ (λ x y. x + y) c.loop-j.invariant.0 a ∙ sym (sum_more j (λ j. (v / 2 ^ j) % 2)),
      ap₂ (λ x y. x + y) c.loop-j.invariant.1 b ∙ sym (sum_more j (λ j. (v / 2 ^ (e + j)) % 2)),
      omega (arith, a),
      omega (arith, b),
    )
