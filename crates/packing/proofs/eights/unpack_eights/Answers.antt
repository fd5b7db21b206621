use Rattle.std.proofs.Common.{◌≡◌, ◌+◌, ◌-◌, ◌*◌, ◌^◌, T, length, take, drop, sym, ap, ◌∙◌, subst, mul-le-mul_left, arith, pow_mono}
use Rattle.standards.specs.Lists.{sum_to, all_below}
use Rattle.standards.specs.Bytes.{bit, unpack}
use Rattle.algebra.proofs.Tables.{length-table, below_weaker}
use Rattle.algebra.proofs.Parts.{fill_next, filled}
use Rattle.algebra.proofs.Packing.{unpack_eight, below_unpack}
use Rattle.algebra.proofs.Words.{length-numbers}
use Rattle.packing.proofs.eights.unpack_eights.Goals as goal

pub slice_bounds-unpack_eight-end : goal.slice_bounds-unpack_eight-end
slice_bounds-unpack_eight-end g c = omega (arith, mul-le-mul_left {m = c.loop-g.g + 1} {n = 32} g.row.D (omega arith))

pub set_eight-requires : goal.set_eight-requires
set_eight-requires g c = (
  omega arith,
  (omega arith, subst (λ x. T (all_below (2 ^ g.W.Word.bits) x)) (sym c.unpack_eight-x.ensures) (below_weaker (2 ^ g.row.D) (2 ^ g.W.Word.bits) _ (pow_mono c.requires.1.1.0) (below_unpack g.row.D 8 _))),
)

pub loop-g-init : goal.loop-g-init
loop-g-init g c = (ap (λ k. take k (g.W.Word.numbers c.args.f.now)) {x = 8 * 0} {y = 0} (omega arith), length-numbers g.W.Word.value g.W.Word.numbers g.met.W.Word.numbers_are c.args.f.now ∙ c.told-f)

pub loop-g-preserved : goal.loop-g-preserved
loop-g-preserved g c =
    let d = g.row.D in
    let bs = c.args.bs.now in
    let i = c.loop-g.g in
    let part : take (d * i + d - d * i) (drop (d * i) bs) ≡ take d (drop (d * i) bs) = ap (λ k. take k (drop (d * i) bs)) (omega arith) in
    let numbers : c.unpack_eight-x.result ≡ take 8 (drop (8 * i) (unpack d 256 bs)) = c.unpack_eight-x.ensures ∙ (ap (unpack d 8) part ∙ unpack_eight d 32 i bs (omega arith) (omega arith)) in
    (ap (take (8 * (i + 1))) c.set_eight.ensures.after ∙ fill_next 8 i (g.W.Word.numbers c.loop-g.f) c.unpack_eight-x.result _ (unpack d 256 bs) (ap length c.unpack_eight-x.ensures ∙ length-table 8 _) (omega (arith, length-table 256 (λ i. sum_to d (λ j. bit bs (i * d + j) * 2 ^ j)))) c.loop-g.invariant.0 numbers, c.set_eight.ensures.all)

pub returns : goal.returns
returns g c =
    let bs = c.args.bs.now in
    let f = g.W.Word.numbers c.loop-g.f in
    filled 256 f (unpack g.row.D 256 bs) c.loop-g.invariant.1 (length-table 256 _)
    (subst (λ k. take k f ≡ take k (unpack g.row.D 256 bs)) {x = 8 * c.loop-g.g} {y = 256} (omega arith) c.loop-g.invariant.0)
