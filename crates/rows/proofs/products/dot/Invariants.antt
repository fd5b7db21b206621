use Rattle.std.proofs.Common.{◌≡◌, ◌+◌, ◌*◌, [], T, get_or}
use Rattle.standards.specs.Lists.{all_below}
use Rattle.standards.specs.Ring.{sum_p}
use Rattle.rows.proofs.products.dot.Given as goal

abbrev pub invariant-loop-j : goal.invariant-loop-j
invariant-loop-j g l =
    let n = g.F.Word.numbers in
    T (all_below g.F.Modular.q (n l.out)) ×
    (n l.out ≡ sum_p g.F.Modular.q l.j (λ j. g.F.Products.product (n (get_or l.a (l.first + l.step * j) [])) (n (get_or l.s j []))))
