-- Tests that pass, as facts.
use Rattle.std.proofs.Common.{◌≡◌, ℕ, zero, suc, ◌<◌, Bool, true, false, cond, not, ◌&&◌, T, eqb, List, [], ◌∷◌, sym, refl, subst, inl, inr, arith}
use Rattle.std.proofs.Math.Dec.{eqb_refl}
use Rattle.std.proofs.lemmas.Bool.{cases_eq}
use Rattle.standards.specs.Lists.{same}

pub both : (x y : Bool) → T (x && y) → T x × T y
both true y h = (tt, h)
both false y h = absurd h

pub from_both : (x y : Bool) → T x → T y → T (x && y)
from_both true y a b = b
from_both false y a b = a

pub is_true : (b : Bool) → T b → b ≡ true
is_true true h = refl
is_true false h = absurd h

pub eqb_is : (a b : ℕ) → a ≡ b → T (eqb a b)
eqb_is a b e = subst (λ x. T (eqb a x)) e (eqb_refl a)

pub same_itself : (xs : List ℕ) → T (same xs xs)
unfolding same
same_itself [] = tt
same_itself (x ∷ xs) = from_both (eqb x x) (same xs xs) (eqb_refl x) (same_itself xs)

pub same_lists : (xs ys : List ℕ) → xs ≡ ys → T (same xs ys)
same_lists xs ys e = subst (λ x. T (same xs x)) e (same_itself xs)

-- a choice by a test that passes
pub pick : {A : Type 0} (b : Bool) (x y : A) → T b → cond b x y ≡ x
pick true x y h = refl
pick false x y h = absurd h

pub passes : (b : Bool) (x y : ℕ) → T b → cond (not b) x y ≡ y
passes true x y h = refl
passes false x y h = absurd h

-- a finite fact by a computed test: all_to_lem n p tt k h
unfoldable pub all_to : ℕ → (ℕ → Bool) → Bool
all_to zero p = true
all_to (suc n) p = p n && all_to n p

pub all_to_lem : (n : ℕ) (p : ℕ → Bool) → T (all_to n p) → (k : ℕ) → k < n → T (p k)
unfolding all_to
all_to_lem zero p h k l = absurd (omega arith)
all_to_lem (suc n) p h k l = elim (cases_eq k n) [ inl e ↦ subst (λ x. T (p x)) (sym e) (both (p n) (all_to n p) h).0 | inr ne ↦ all_to_lem n p (both (p n) (all_to n p) h).1 k (omega arith) ]
