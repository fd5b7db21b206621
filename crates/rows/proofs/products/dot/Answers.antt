use Rattle.std.proofs.Common.{◌≡◌, ℕ, ◌+◌, ◌*◌, List, [], get_or, length, refl, ap, ◌∙◌, arith}
use Rattle.std.proofs.lemmas.List.{get_or_read_under}
use Rattle.standards.specs.Ring.{zero_p, add_p, sum_p}
use Rattle.algebra.proofs.Numbers.{table_below}
use Rattle.algebra.proofs.PolySums.{sum_p_more}
use Rattle.rows.proofs.products.dot.Goals as goal

none : (q : ℕ) (f : ℕ → List ℕ) → zero_p ≡ sum_p q 0 f
unfolding sum_p
none q f = refl

pub loop-j-init : goal.loop-j-init
loop-j-init g c = (table_below g.F.Modular.q _ _ (λ k. g.met.F.Modular.positive) c.zero.ensures, c.zero.ensures ∙ none g.F.Modular.q _)

pub multiply_add-requires-after_bounds : goal.multiply_add-requires-after_bounds
multiply_add-requires-after_bounds g c κs within =
    let j = c.loop-j.j in
    let row = get_or_read_under _ _ (length c.args.a.now) _ [] c.index-a-first.is (omega (arith, c.requires.within j c.loop-j-test.true)) refl in
    let of_s = get_or_read_under _ _ (length c.args.s.now) _ [] c.index-s-j.is (omega arith) refl in
    (omega arith, (c.loop-j.invariant.0, (rw row (c.requires.left j c.loop-j-test.true), rw of_s (c.requires.right _ (omega arith)))))

pub loop-j-preserved : goal.loop-j-preserved
loop-j-preserved g c =
    let j = c.loop-j.j in
    let row = get_or_read_under _ _ (length c.args.a.now) _ [] c.index-a-first.is (omega (arith, c.requires.within j c.loop-j-test.true)) refl in
    let of_s = get_or_read_under _ _ (length c.args.s.now) _ [] c.index-s-j.is (omega arith) refl in
    let n = g.F.Word.numbers in
    let f : ℕ → List ℕ = λ j. g.F.Products.product (n (get_or c.args.a.now (c.args.first + c.args.step * j) [])) (n (get_or c.args.s.now j [])) in
    (c.multiply_add.ensures.below, (rw (row, of_s) at c.multiply_add.ensures.value) ∙ (ap (add_p g.F.Modular.q (f j)) c.loop-j.invariant.1 ∙ sum_p_more g.F.Modular.q j f))
