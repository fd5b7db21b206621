use Rattle.std.proofs.Common.{◌≡◌, ◌+◌, ◌*◌, ◌≤◌, length, take, ap, ◌∙◌, subst, mul-le-mul_left, arith}
use Rattle.standards.specs.Bytes.{pack}
use Rattle.algebra.proofs.Parts.{fill_next, filled}
use Rattle.algebra.proofs.Packing.{pack_eight, length-pack}
use Rattle.algebra.proofs.Words.{length-numbers}
use Rattle.packing.proofs.eights.pack_eights.Goals as goal

pub slice_bounds-pack_eight-end : goal.slice_bounds-pack_eight-end
slice_bounds-pack_eight-end g c = omega (arith, mul-le-mul_left {m = c.loop-g.g + 1} {n = 32} g.row.D (omega arith))

pub loop-g-init : goal.loop-g-init
loop-g-init g c = ap (λ k. take k c.args.out.now) {x = g.row.D * 0} {y = 0} (omega arith) ∙ ap (λ k. take k (pack g.row.D (g.W.Word.numbers c.args.f.now))) {x = 0} {y = g.row.D * 0} (omega arith)

pub loop-g-preserved : goal.loop-g-preserved
loop-g-preserved g c =
    let d = g.row.D in
    let f = g.W.Word.numbers c.args.f.now in
    let all : length f ≡ 256 = length-numbers g.W.Word.value g.W.Word.numbers g.met.W.Word.numbers_are c.args.f.now ∙ c.told-f in
    let i = c.loop-g.g in
    let bytes = c.pack_eight.ensures ∙ (ap (pack d) c.eight-x.ensures ∙ pack_eight d 32 i f (omega arith) all (omega arith)) in
    let long : length (pack d f) ≡ 32 * d = length-pack d 256 (32 * d) f (omega arith) all in
    let room : d * i ≤ length (pack d f) = omega (arith, mul-le-mul_left {m = i} {n = 32} d (omega arith)) in
    fill_next d i c.loop-g.out c.pack_eight.new.out _ (pack d f) (omega arith) room c.loop-g.invariant bytes

pub returns : goal.returns
returns g c =
    let d = g.row.D in
    let f = g.W.Word.numbers c.args.f.now in
    let all : length f ≡ 256 = length-numbers g.W.Word.value g.W.Word.numbers g.met.W.Word.numbers_are c.args.f.now ∙ c.told-f in
    let end : d * c.loop-g.g ≡ 32 * d = ap (λ x. d * x) {x = c.loop-g.g} {y = 32} (omega arith) ∙ omega arith in
    filled (32 * d) c.loop-g.out (pack d f) (omega arith) (length-pack d 256 (32 * d) f (omega arith) all) (subst (λ k. take k c.loop-g.out ≡ take k (pack d f)) end c.loop-g.invariant)
