-- Numbers that differ in no bit are the same; a choice by a mask.
use Rattle.std.proofs.Common.{◌≡◌, ℕ, ◌+◌, ◌<◌, ◌≤◌, Bool, true, false, cond, ◌&&◌, eqb, List, [], ◌∷◌, ◌++◌, length, get_or, take, sym, refl, ap, ◌∙◌, ap₂, inl, inr, mod-eq_of_lt, arith}
use lib.Bits.{bit_or, bit_and, bit_xor, or_add_and, or_zero_l, xor_self, xor_assoc, xor_zero_l, xor_zero_r, xor_lt, and_le_l, and_le_r, and_mask, and_comm, and_zero_l}
use Rattle.std.proofs.lemmas.Bool.{cases_eq, eq-eqb, ne_eqb, eqb-true, and_from, and_parts}
use Rattle.std.proofs.lemmas.List.{take_more, length-take-le, ext_get_or}
use Rattle.standards.specs.Lists.{same}

or_none_l : (a b : ℕ) → bit_or a b ≡ 0 → a ≡ 0
or_none_l a b e = let s : bit_or a b + bit_and a b ≡ a + b = or_add_and a b in let l : bit_and a b ≤ b = and_le_r a b in omega arith

or_none_r : (a b : ℕ) → bit_or a b ≡ 0 → b ≡ 0
or_none_r a b e = let s : bit_or a b + bit_and a b ≡ a + b = or_add_and a b in let l : bit_and a b ≤ a = and_le_l a b in omega arith

xor_none : (a b : ℕ) → bit_xor a b ≡ 0 → a ≡ b
xor_none a b e = sym (xor_zero_r a) ∙ (ap (bit_xor a) (sym e) ∙ (sym (xor_assoc a a b) ∙ ap (λ x. bit_xor x b) (xor_self a)))

untrue : (b : Bool) → (b ≡ true → ⊥) → b ≡ false
untrue true h = absurd (h refl)
untrue false h = refl

-- one more place is compared
pub or_test : (d x y : ℕ) → eqb (bit_or d (bit_xor x y)) 0 ≡ eqb d 0 && eqb x y
or_test d x y = elim (cases_eq (bit_or d (bit_xor x y)) 0) [
  | inl e ↦ eq-eqb _ _ e ∙ sym (and_from (eqb d 0) (eqb x y) (eq-eqb d 0 (or_none_l d (bit_xor x y) e)) (eq-eqb x y (xor_none x y (or_none_r d (bit_xor x y) e))))
  | inr ne ↦ ne_eqb _ _ ne ∙ sym (untrue (eqb d 0 && eqb x y) (λ t. ne (none (eqb-true d 0 (and_parts _ _ t).0) (eqb-true x y (and_parts _ _ t).1))))
]
  where
    none : d ≡ 0 → x ≡ y → bit_or d (bit_xor x y) ≡ 0
    none p r = ap₂ (λ u v. bit_or u (bit_xor v y)) p r ∙ (ap (bit_or 0) (xor_self y) ∙ or_zero_l 0)

same_push : (xs ys : List ℕ) (x y : ℕ) → length xs ≡ length ys → same (xs ++ x ∷ []) (ys ++ y ∷ []) ≡ same xs ys && eqb x y
unfolding same
same_push [] [] x y l = side (eqb x y)
  where
    side : (b : Bool) → b && true ≡ b
    side true = refl
    side false = refl
same_push [] (b ∷ ys) x y l = absurd (omega arith)
same_push (a ∷ xs) [] x y l = absurd (omega arith)
same_push (a ∷ xs) (b ∷ ys) x y l = ap (λ t. eqb a b && t) (same_push xs ys x y (omega arith)) ∙ turn (eqb a b) (same xs ys) (eqb x y)
  where
    turn : (a b c : Bool) → a && (b && c) ≡ (a && b) && c
    turn true b c = refl
    turn false b c = refl

pub same_more : (xs ys : List ℕ) (i : ℕ) → i < length xs → i < length ys → same (take (i + 1) xs) (take (i + 1) ys) ≡ same (take i xs) (take i ys) && eqb (get_or xs i 0) (get_or ys i 0)
same_more xs ys i l m =
    ap₂ same (take_more xs i 0 l) (take_more ys i 0 m) ∙ same_push (take i xs) (take i ys) _ _ (length-take-le i xs (omega arith) ∙ sym (length-take-le i ys (omega arith)))

pub same_none : (xs ys : List ℕ) → true ≡ same (take 0 xs) (take 0 ys)
unfolding same
same_none xs ys = refl

-- a mask of noughts or of ones
pub picked : (d m a b : ℕ) → (d ≡ 0 → m ≡ 0) → (0 < d → m ≡ 255) → a < 256 → b < 256 → bit_xor a (bit_and m (bit_xor a b)) ≡ cond (eqb d 0) a b
picked d m a b h0 h1 la lb = elim (cases_eq d 0) [
  | inl e ↦ ap (λ x. bit_xor a (bit_and x (bit_xor a b))) (h0 e) ∙ (ap (bit_xor a) (and_zero_l (bit_xor a b)) ∙ (xor_zero_r a ∙ ap (λ t. cond t a b) (sym (eq-eqb d 0 e))))
  | inr ne ↦ ap (λ x. bit_xor a (bit_and x (bit_xor a b))) (h1 (omega (arith, ne))) ∙ (ap (bit_xor a) ones ∙ (sym (xor_assoc a a b) ∙ (ap (λ x. bit_xor x b) (xor_self a) ∙ (xor_zero_l b ∙ ap (λ t. cond t a b) (sym (ne_eqb d 0 ne))))))
]
  where
    ones : bit_and 255 (bit_xor a b) ≡ bit_xor a b
    ones = and_comm 255 (bit_xor a b) ∙ (and_mask (bit_xor a b) 8 ∙ mod-eq_of_lt (xor_lt 8 a b la lb))

pub chosen : (t : Bool) (x y z : List ℕ) → length z ≡ length x → length z ≡ length y → ((k : ℕ) → k < length z → get_or z k 0 ≡ cond t (get_or x k 0) (get_or y k 0)) → z ≡ cond t x y
chosen true x y z l m h = ext_get_or 0 z x l h
chosen false x y z l m h = ext_get_or 0 z y m h
