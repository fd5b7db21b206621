-- Places read and marked, row by row.
use Rattle.std.proofs.Common.{◌≡◌, ℕ, zero, suc, ◌+◌, ◌-◌, ◌*◌, ◌/◌, ◌<◌, ◌≤◌, Bool, true, false, ◌&&◌, ltb, eqb, List, [], ◌∷◌, ◌++◌, Option, None, Some, length, get_or, take, drop, set, sym, refl, ap, ◌∙◌, subst, ap₂, inl, inr, add-one, arith}
use Rattle.std.proofs.Math.Bool.{true-and}
use Rattle.std.proofs.lemmas.List.{take_rest, length-drop, drop-take, take-take, length-take, take_more_set, at_drop_more, at_drop_all}
use Rattle.std.specs.List.{PartBy, AllAdjacentBelow, IsAllAdjacentAnswer, list_all}
use Rattle.std.proofs.lemmas.Bool.{lt-leb, le-leb, leb-true, and_parts, and_from, and_left, and_right, cases_eq}
use Rattle.std.proofs.lemmas.Bool.Decides.{nat_tests}
use Rattle.standards.specs.Lists.{rows, tables, at, all_below}
use Rattle.standards.specs.Ring.{zero_p}
use Rattle.standards.specs.MlDsaParts.{DsaSet, z_bits}
use Rattle.standards.specs.MlDsa.{sig_length, hint_part, hint_end, hint_begin, rising, hints_rise, hint_padding_zero, marked, hint_row}
use Rattle.mldsa_laws.proofs.HintCounts.{begin_later, begin_next}
use Rattle.mldsa_laws.proofs.Places.{marked_more, marked_none}
use Rattle.mldsa_hints.specs.Rows.{between, row_rises}

-- ---- one row
pair_behind : (b : Bool) (x : ℕ) (xs : List ℕ) (k d : ℕ) → b ≡ ltb (get_or (x ∷ xs) (suc k) d) (get_or (x ∷ xs) (suc k + 1) d) → b ≡ ltb (get_or xs k d) (get_or xs (k + 1) d)
pair_behind b x xs k d h = h ∙ ap (λ n. ltb (get_or xs k d) (get_or (x ∷ xs) n d)) {x = suc k + 1} {y = suc (k + 1)} (omega arith)

-- it rises if each place is below the next one
rising-pairs : (xs : List ℕ) → AllAdjacentBelow (λ x y. true ≡ ltb x y) xs (length xs) → true ≡ rising xs
unfolding rising
rising-pairs [] h = refl
rising-pairs (x ∷ []) h = refl
rising-pairs (x ∷ y ∷ ys) h =
    sym (and_from _ _ (sym (h 0 0 (omega arith))) (sym (rising-pairs (y ∷ ys) (λ k d l. pair_behind true x (y ∷ ys) k d (h (suc k) d (omega arith))))))

-- and does not where one is not
falling_pair : (xs : List ℕ) (k : ℕ) → k + 1 < length xs → ((d : ℕ) → false ≡ ltb (get_or xs k d) (get_or xs (k + 1) d)) → false ≡ rising xs
unfolding rising
falling_pair [] k l h = absurd (omega arith)
falling_pair (x ∷ []) k l h = absurd (omega arith)
falling_pair (x ∷ y ∷ ys) zero l h = sym (and_left _ _ (sym (h 0)))
falling_pair (x ∷ y ∷ ys) (suc k) l h = sym (and_right _ _ (sym (falling_pair (y ∷ ys) k (omega arith) (λ d. pair_behind false x (y ∷ ys) k d (h d)))))

-- what `is_sorted_by` answers
pub rising-sorted : (xs : List ℕ) (r : Bool) → IsAllAdjacentAnswer (λ x y b. b ≡ ltb x y) xs r → r ≡ rising xs
rising-sorted xs true h = rising-pairs xs h
rising-sorted xs false h = falling_pair xs h.0 h.1 h.2

-- the places from i on are left to mark, of which x is the first; all is what is there in the end
pub marks_next : (xs c all : List ℕ) (i x : ℕ) → i < length xs → x ≡ get_or xs i 0 → marked (drop i xs) c ≡ all → marked (drop (i + 1) xs) (set c x 1) ≡ all
marks_next xs c all i x h e is =
    sym (at_drop_more (λ ys. marked ys c) xs i 0 h ∙ (marked_more (get_or xs i 0) (drop (i + 1) xs) c ∙ ap (λ n. marked (drop (i + 1) xs) (set c n 1)) (sym e))) ∙ is

pub marks_last : (xs c all : List ℕ) (i : ℕ) → length xs ≤ i → marked (drop i xs) c ≡ all → c ≡ all
marks_last xs c all i h is = sym (at_drop_all (λ ys. marked ys c) xs i h ∙ marked_none c) ∙ is

-- ---- the part of the hints, and of a row
pub part_is : (p : DsaSet) (s : List ℕ) (a d : ℕ) → a ≡ p.lambda / 4 → d ≡ z_bits p → take (length s - (a + 32 * d * p.l)) (drop (a + 32 * d * p.l) s) ≡ hint_part p s
part_is p s a d c w = take_rest s _ ∙ ap₂ (λ x y. drop (x + 32 * y * p.l) s) c w

pub part_long : (p : DsaSet) (s part : List ℕ) → part ≡ hint_part p s → length s ≡ sig_length p → p.omega ≤ length part
part_long p s part is h = omega (arith, ap length is, length-drop (p.lambda / 4 + 32 * z_bits p * p.l) s, h)

between_part : (n a e : ℕ) (part : List ℕ) → a ≤ e → e ≤ n → take (e - a) (drop a (take n part)) ≡ between a e part
between_part n a e part h l =
    ap (take (e - a)) (ap (λ k. drop a (take k part)) {x = n} {y = a + (n - a)} (omega arith) ∙ drop-take a (n - a) part) ∙ take-take (e - a) (n - a) (drop a part) (omega arith)

-- where `get` finds none from b on of the first n bytes, which are at least omega, the row is bad, if it does not begin before b
pub part_none : {R : Type 0} (now : R → List ℕ) (om n b a e : ℕ) (part : List ℕ) (r : Option R) → om ≤ length part → PartBy now (take n part) b e r → r ≡ None → om ≤ n → b ≤ a → row_rises om part a e ≡ false
part_none now om n b a e part r long got none all begins = elim (subst (PartBy now (take n part) b e) none got).0 [
  | inl l ↦ and_left _ _ (and_left _ _ (lt-leb a e (omega (arith, l, begins))))
  | inr l ↦ and_left _ _ (and_right _ _ (lt-leb e om (omega (arith, l, length-take n part))))
]

-- and where it finds one, n is at most omega, and the row begins at b, it is good if that part rises
pub part_some : {R : Type 0} (now : R → List ℕ) (om n b a e : ℕ) (part : List ℕ) (r : Option R) (x : R) → PartBy now (take n part) b e r → r ≡ Some x → n ≤ om → b ≡ a →
    (row_rises om part a e ≡ rising (now x)) × (now x ≡ between a e part)
part_some now om n b a e part r x got some few begins =
    let w = (subst (PartBy now (take n part) a e) some (subst (λ k. PartBy now (take n part) k e r) begins got)).0 in
    let last : e ≤ n = omega (arith, w.1, length-take n part) in
    let is = w.2 ∙ between_part n a e part w.0 last in (
      ap (λ b. b && rising (between a e part)) (and_from _ _ (le-leb a e w.0) (le-leb e om (omega arith))) ∙ (true-and _ ∙ ap rising (sym is)),
      is,
    )

-- ---- noughts
pub noughts_are : (xs : List ℕ) → list_all (λ x. eqb x 0) xs ≡ all_below 1 xs
unfolding all_below
noughts_are [] = refl
noughts_are (x ∷ xs) = ap₂ ◌&&◌ (grind (arith, nat_tests)) (noughts_are xs)

-- ---- all rows
more_rows : (f : ℕ → List ℕ) (i n : ℕ) → rows f i (suc n) ≡ rows f i n ++ (f (i + n) ∷ [])
unfolding rows
more_rows f i zero = ap (λ k. f k ∷ []) {x = i} {y = i + 0} (omega arith)
more_rows f i (suc n) = ap (λ xs. f i ∷ xs) (more_rows f (i + 1) n ∙ ap (λ k. rows f (i + 1) n ++ (f k ∷ [])) {x = i + 1 + n} {y = i + suc n} (omega arith))

pub tables_none : (f : ℕ → List ℕ) → tables 0 f ≡ []
unfolding rows
tables_none f = refl

-- row i is written
pub tables_next : (f : ℕ → List ℕ) (v : List (List ℕ)) (i : ℕ) (r : List ℕ) → i < length v → r ≡ f i → take i v ≡ tables i f → take (i + 1) (set v i r) ≡ tables (i + 1) f
tables_next f v i r h is e =
    take_more_set v i r h ∙ (ap₂ (λ a x. a ++ (x ∷ [])) e is ∙
    sym (ap (λ k. tables k f) (add-one i) ∙ (more_rows f 0 i ∙ ap (λ k. tables i f ++ (f k ∷ [])) {x = 0 + i} {y = i} (omega arith))))

rise_more : (p : DsaSet) (s : List ℕ) (n : ℕ) → hints_rise p s (suc n) ≡ row_rises p.omega (hint_part p s) (hint_begin p s n) (hint_end p s n) && hints_rise p s n
unfolding hints_rise
rise_more p s n = refl

pub rise_none : (p : DsaSet) (s : List ℕ) → hints_rise p s 0 ≡ true
unfolding hints_rise
rise_none p s = refl

one_bad : (p : DsaSet) (s : List ℕ) (i n : ℕ) → i < n → row_rises p.omega (hint_part p s) (hint_begin p s i) (hint_end p s i) ≡ false → hints_rise p s n ≡ false
one_bad p s i zero h bad = absurd (omega arith)
one_bad p s i (suc n) h bad = elim (cases_eq i n) [
  | inl e ↦ rise_more p s n ∙ and_left _ _ (subst (λ j. row_rises p.omega (hint_part p s) (hint_begin p s j) (hint_end p s j) ≡ false) e bad)
  | inr ne ↦ rise_more p s n ∙ and_right _ _ (one_bad p s i n (omega (arith, ne)) bad)
]

module _ (p : DsaSet) (s part : List ℕ) (is : part ≡ hint_part p s) where
  -- what is asked of row i, whose places begin at a
  abbrev Row : ℕ → ℕ → Bool
  Row i a = row_rises p.omega part a (at part (p.omega + i))

  row_is : (i a : ℕ) → a ≡ hint_begin p s i → Row i a ≡ row_rises p.omega (hint_part p s) (hint_begin p s i) (hint_end p s i)
  row_is i a e = ap₂ (λ b x. row_rises p.omega b x (at b (p.omega + i))) is e

  pub rise_stop : (i a : ℕ) → i < p.k → a ≡ hint_begin p s i → Row i a ≡ false → false ≡ hints_rise p s p.k && hint_padding_zero p s
  rise_stop i a h e bad = sym (and_left _ _ (one_bad p s i p.k h (sym (row_is i a e) ∙ bad)))

  -- row i is good: where it ends the next one begins
  pub rise_next : (i a : ℕ) → a ≡ hint_begin p s i → Row i a ≡ true → hints_rise p s i ≡ true →
      (at part (p.omega + i) ≤ p.omega) × (at part (p.omega + i) ≡ hint_begin p s (i + 1)) × (hints_rise p s (i + 1) ≡ true)
  rise_next i a e ok was = (
    leb-true (at part (p.omega + i)) p.omega (and_parts _ _ (and_parts _ _ ok).0).1,
    ap (λ b. at b (p.omega + i)) is ∙ sym (begin_next p s i),
    ap (hints_rise p s) (add-one i) ∙ (rise_more p s i ∙ and_from _ _ (sym (row_is i a e) ∙ ok) was),
  )

  pub row_marked : (i a : ℕ) → a ≡ hint_begin p s i → marked (between a (at part (p.omega + i)) part) zero_p ≡ hint_row p s i
  row_marked i a e = ap₂ (λ b x. marked (between x (at b (p.omega + i)) b) zero_p) is e

  pub rise_last : (i a : ℕ) → i ≡ p.k → 0 < p.k → a ≡ hint_begin p s i → hints_rise p s i ≡ true → all_below 1 (between a p.omega part) ≡ hints_rise p s p.k && hint_padding_zero p s
  rise_last i a e pos begins ok =
      ap₂ (λ b x. all_below 1 (between x p.omega b)) is (begins ∙ (ap (hint_begin p s) e ∙ begin_later p s p.k pos)) ∙
      (sym (true-and (hint_padding_zero p s)) ∙ ap (λ t. t && hint_padding_zero p s) (sym (ap (hints_rise p s) (sym e) ∙ ok)))
