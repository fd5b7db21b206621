-- Tests whether a norm is below a bound, number by number and row by row.
use Rattle.std.proofs.Common.{◌≡◌, ℕ, zero, suc, ◌+◌, ◌<◌, ◌≤◌, Bool, true, false, cond, ◌&&◌, ltb, List, [], ◌∷◌, length, get_or, drop, sym, refl, ap, ◌∙◌, add-one, arith}
use Rattle.std.proofs.lemmas.List.{at_drop_more, at_drop_all}
use Rattle.std.proofs.lemmas.Bool.{lt-ltb}
use Rattle.std.proofs.lemmas.Bool.Decides.{nat_tests}
use Rattle.standards.specs.Lists.{rows, tables}
use Rattle.standards.specs.Ring.{magnitude, norm, norms}

and_assoc : (a b c : Bool) → (a && b) && c ≡ a && (b && c)
and_assoc true b c = refl
and_assoc false b c = refl

and_comm : (a b : Bool) → a && b ≡ b && a
and_comm true true = refl
and_comm true false = refl
and_comm false true = refl
and_comm false false = refl

larger_below : (a b n : ℕ) → ltb (cond (ltb b a) a b) n ≡ ltb a n && ltb b n
larger_below a b n = grind (arith, nat_tests)

-- ---- F is the largest of g x over the x of a list
module _ {X : Type 0} (F : List X → ℕ) (g : X → ℕ) (none : F [] ≡ 0) (more : (x : X) (xs : List X) → F (x ∷ xs) ≡ cond (ltb (F xs) (g x)) (g x) (F xs)) where
  first_below : (b : ℕ) (x : X) (xs : List X) → ltb (F (x ∷ xs)) b ≡ ltb (g x) b && ltb (F xs) b
  first_below b x xs = ap (λ n. ltb n b) (more x xs) ∙ larger_below (g x) (F xs) b

  -- one more was looked at: what was found and what is left make the test
  next_below : (b i : ℕ) (xs : List X) (d : X) (small all : Bool) → i < length xs → small && ltb (F (drop i xs)) b ≡ all → (small && ltb (g (get_or xs i d)) b) && ltb (F (drop (i + 1) xs)) b ≡ all
  next_below b i xs d small all h e =
      and_assoc small _ _ ∙ (ap (λ t. small && t) (sym (at_drop_more (λ ys. ltb (F ys) b) xs i d h ∙ first_below b (get_or xs i d) (drop (i + 1) xs))) ∙ e)

  last_below : (b i : ℕ) (xs : List X) (small all : Bool) → length xs ≤ i → 0 < b → small && ltb (F (drop i xs)) b ≡ all → small ≡ all
  last_below b i xs small all h pos e =
      and_comm true small ∙ (ap (λ t. small && t) (sym (at_drop_all (λ ys. ltb (F ys) b) xs i h ∙ (ap (λ n. ltb n b) none ∙ lt-ltb 0 b pos))) ∙ e)

-- ---- the norm of a polynomial
empty_norm : norm 8380417 [] ≡ 0
unfolding norm
empty_norm = refl

norm_more : (x : ℕ) (xs : List ℕ) → norm 8380417 (x ∷ xs) ≡ cond (ltb (norm 8380417 xs) (magnitude 8380417 x)) (magnitude 8380417 x) (norm 8380417 xs)
unfolding norm
norm_more x xs = refl

pub norm_next : (b i : ℕ) (f : List ℕ) (small all : Bool) → i < length f → small && ltb (norm 8380417 (drop i f)) b ≡ all →
    (small && ltb (magnitude 8380417 (get_or f i 0)) b) && ltb (norm 8380417 (drop (i + 1) f)) b ≡ all
norm_next b i f small all = next_below (norm 8380417) (magnitude 8380417) empty_norm norm_more b i f 0 small all

pub norm_last : (b i : ℕ) (f : List ℕ) (small all : Bool) → length f ≤ i → 0 < b → small && ltb (norm 8380417 (drop i f)) b ≡ all → small ≡ all
norm_last b i f small all = last_below (norm 8380417) (magnitude 8380417) empty_norm norm_more b i f small all

-- ---- and of a vector
empty_norms : norms 8380417 [] ≡ 0
unfolding norms
empty_norms = refl

norms-cons : (x : List ℕ) (xs : List (List ℕ)) → norms 8380417 (x ∷ xs) ≡ cond (ltb (norms 8380417 xs) (norm 8380417 x)) (norm 8380417 x) (norms 8380417 xs)
unfolding norms
norms-cons x xs = refl

pub norms_next : (b i : ℕ) (v : List (List ℕ)) (small all : Bool) → i < length v → small && ltb (norms 8380417 (drop i v)) b ≡ all →
    (small && ltb (norm 8380417 (get_or v i [])) b) && ltb (norms 8380417 (drop (i + 1) v)) b ≡ all
norms_next b i v small all = next_below (norms 8380417) (norm 8380417) empty_norms norms-cons b i v [] small all

pub norms_last : (b i : ℕ) (v : List (List ℕ)) (small all : Bool) → length v ≤ i → 0 < b → small && ltb (norms 8380417 (drop i v)) b ≡ all → small ≡ all
norms_last b i v small all = last_below (norms 8380417) (norm 8380417) empty_norms norms-cons b i v small all

-- ---- rows that are tested as they are made
more_rows : (b : ℕ) (f : ℕ → List ℕ) (i n : ℕ) → ltb (norms 8380417 (rows f i (suc n))) b ≡ ltb (norms 8380417 (rows f i n)) b && ltb (norm 8380417 (f (i + n))) b
unfolding rows
more_rows b f i zero =
    first_below (norms 8380417) (norm 8380417) empty_norms norms-cons b (f i) [] ∙ (and_comm (ltb (norm 8380417 (f i)) b) (ltb (norms 8380417 []) b) ∙ ap (λ m. ltb (norms 8380417 []) b && ltb (norm 8380417 (f m)) b) {x = i} {y = i + 0} (omega arith))
more_rows b f i (suc n) =
    let x = ltb (norm 8380417 (f i)) b in
    let y = ltb (norms 8380417 (rows f (i + 1) n)) b in
    first_below (norms 8380417) (norm 8380417) empty_norms norms-cons b (f i) (rows f (i + 1) (suc n)) ∙
    (ap (λ t. x && t) (more_rows b f (i + 1) n ∙ ap (λ m. y && ltb (norm 8380417 (f m)) b) {x = i + 1 + n} {y = i + suc n} (omega arith)) ∙
    (sym (and_assoc x y (ltb (norm 8380417 (f (i + suc n))) b)) ∙ ap (λ t. t && ltb (norm 8380417 (f (i + suc n))) b) (sym (first_below (norms 8380417) (norm 8380417) empty_norms norms-cons b (f i) (rows f (i + 1) n)))))

pub norms_more : (b n : ℕ) (f : ℕ → List ℕ) → ltb (norms 8380417 (tables (n + 1) f)) b ≡ ltb (norms 8380417 (tables n f)) b && ltb (norm 8380417 (f n)) b
norms_more b n f =
    ap (λ m. ltb (norms 8380417 (tables m f)) b) (add-one n) ∙ (more_rows b f 0 n ∙ ap (λ m. ltb (norms 8380417 (tables n f)) b && ltb (norm 8380417 (f m)) b) {x = 0 + n} {y = n} (omega arith))

pub norms_none : (b : ℕ) (f : ℕ → List ℕ) → 0 < b → ltb (norms 8380417 (tables 0 f)) b ≡ true
unfolding rows
norms_none b f pos = ap (λ n. ltb n b) empty_norms ∙ lt-ltb 0 b pos
