-- Loops that put one number after the other.
use Rattle.std.proofs.Common.{mod-lt, zero, suc, List, [], ◌∷◌, set, lt→ltb, ltb, ◌≡◌, ℕ, ◌+◌, ◌%◌, ◌<◌, ◌≤◌, T, arith, lit<}
use Rattle.standards.specs.Lists.{at, all_below}
use Rattle.algebra.proofs.Tests.{both, from_both}
use Rattle.algebra.proofs.Tables.{at_small}
use Rattle.algebra.proofs.Numbers.{table_below}
use Rattle.algebra.proofs.Words.{Filled, filled_set, filled_all}

pub below_set : (q : ℕ) (xs : List ℕ) (i x : ℕ) → x < q → T (all_below q xs) → T (all_below q (set xs i x))
unfolding all_below
below_set q [] i x h b = b
below_set q (y ∷ ys) zero x h b = from_both _ _ (lt→ltb x q h) (both (ltb y q) (all_below q ys) b).1
below_set q (y ∷ ys) (suc i) x h b = let p = both (ltb y q) (all_below q ys) b in from_both _ _ p.0 (below_set q ys i x h p.1)

-- number i becomes x, which is t i where it was still as in the row that the loop began with
pub number_put : (q : ℕ) (t : ℕ → ℕ) (f : List ℕ) (i : ℕ) (F : List ℕ) (x : ℕ) → i < 256 → (at F i ≡ at f i → x ≡ t i) → x < q → Filled t f i F × T (all_below q F) →
    Filled t f (i + 1) (set F i x) × T (all_below q (set F i x))
number_put q t f i F x h is small w = (filled_set t f i F x h (is (w.0.rest i (omega arith))) w.0, below_set q F i x small w.1)

-- numbers modulo q are below q
pub filled_mod : (t : ℕ → ℕ) (f F : List ℕ) (i : ℕ) → 256 ≤ i → Filled (λ k. t k % 8380417) f i F → T (all_below 8380417 F)
filled_mod t f F i h w = table_below 8380417 _ F (λ k. mod-lt (t k) (lit< tt)) (filled_all _ f F i h w)

pub ruleset number_loops = (at_small, filled_set, filled_all, filled_mod)
