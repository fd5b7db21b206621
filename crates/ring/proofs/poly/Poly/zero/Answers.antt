use Rattle.std.proofs.Common.{sym, subst, T}
use Rattle.standards.specs.Lists.{all_below}
use Rattle.algebra.proofs.Tables.{below_table}
use Rattle.ring.proofs.poly.Poly.zero.Goals as goal

pub invariant_of-result : goal.invariant_of-result
invariant_of-result g c =
    record { below = subst (λ x. T (all_below g.F.Modular.q x)) (sym c.zero.ensures) (below_table g.F.Modular.q 256 _ (λ k _. g.met.F.Modular.positive)) }
