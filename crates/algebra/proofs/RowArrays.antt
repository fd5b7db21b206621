-- Loops over arrays of rows: a row is set, bytes of rows are written one after the other, draws are all full.
use Rattle.std.proofs.Common.{◌≡◌, ℕ, zero, suc, ◌+◌, ◌*◌, ◌<◌, ◌≤◌, Bool, true, false, ◌&&◌, T, eqb, ◌≢◌, List, [], ◌++◌, length, take, set, sym, refl, ap, ◌∙◌, subst, ap₂, append_assoc, add-one, arith, below_more}
use borrow.Rule.Slice.PartMut.{put_mid}
use Rattle.std.proofs.lemmas.Nat.{mul-le}
use Rattle.std.proofs.lemmas.List.{length-set, get_or-set_same, get_or-set_other, append-nil}
use Rattle.std.proofs.lemmas.Slice.{take-put_mid}
use Rattle.std.proofs.lemmas.Bool.{eqb-true, eq-eqb, and_parts}
use Rattle.standards.specs.Lists.{rows, tables, row_at, joined, all_below, all_full}
use Rattle.algebra.specs.RowArrays.{RowsFilled}
use Rattle.algebra.proofs.Rows.{tables-same}

-- what was true of the rows below i and is true of the new one is true of one more
pub each_set : (P : ℕ → List ℕ → Type 0) (v : List (List ℕ)) (i : ℕ) (x : List ℕ) → i < length v → ((j : ℕ) → j < i → P j (row_at v j)) → P i x →
    (j : ℕ) → j < i + 1 → P j (row_at (set v i x) j)
each_set P v i x lt was new =
    below_more (λ j. P j (row_at (set v i x) j)) i
    (λ k h. let ne : k ≢ i = omega arith in subst (P k) (sym (get_or-set_other v i k x [] ne)) (was k h))
    (subst (P i) (sym (get_or-set_same v i x [] lt)) new)

pub fill_none : (n b : ℕ) (f : ℕ → List ℕ) (v : List (List ℕ)) → length v ≡ n → RowsFilled n b f 0 v
fill_none n b f v l = record { long = l; are = λ j h. absurd (omega arith); below = λ j h. absurd (omega arith) }

pub fill_row : (n b : ℕ) (f : ℕ → List ℕ) (v : List (List ℕ)) (i : ℕ) (x : List ℕ) → i < n → x ≡ f i → T (all_below b x) → RowsFilled n b f i v → RowsFilled n b f (i + 1) (set v i x)
fill_row n b f v i x h is small w = record {
  long = length-set v i x ∙ w.long;
  are = each_set (λ j y. y ≡ f j) v i x (omega (arith, w.long)) w.are is;
  below = each_set (λ j y. T (all_below b y)) v i x (omega (arith, w.long)) w.below small;
}

-- ---- rows of w bytes that are written one after the other
more_rows : (f : ℕ → List ℕ) (i n : ℕ) → joined (rows f i (suc n)) ≡ joined (rows f i n) ++ f (i + n)
unfolding rows joined
more_rows f i zero = append-nil (f i) ∙ ap f {x = i} {y = i + 0} (omega arith)
more_rows f i (suc n) =
    ap (λ x. f i ++ x) (more_rows f (i + 1) n) ∙
    (sym (append_assoc (f i) (joined (rows f (i + 1) n)) (f (i + 1 + n))) ∙ ap (λ x. (f i ++ joined (rows f (i + 1) n)) ++ f x) {x = i + 1 + n} {y = i + suc n} (omega arith))

joined_more : (f : ℕ → List ℕ) (n : ℕ) → joined (tables (n + 1) f) ≡ joined (tables n f) ++ f n
joined_more f n =
    ap (λ m. joined (tables m f)) (add-one n) ∙ (more_rows f 0 n ∙ ap (λ m. joined (tables n f) ++ f m) {x = 0 + n} {y = n} (omega arith))

pub joined_none : (f : ℕ → List ℕ) → joined (tables 0 f) ≡ []
unfolding rows joined
joined_none f = refl

pub joined_same : (n : ℕ) (f g : ℕ → List ℕ) → ((k : ℕ) → k < n → f k ≡ g k) → joined (tables n f) ≡ joined (tables n g)
joined_same n f g h = ap joined (tables-same n f g h)

-- row i goes to place w * i
pub put_row : (w i m : ℕ) (f : ℕ → List ℕ) (out new : List ℕ) → w * i ≤ length out → length new ≡ w → new ≡ f i → take (w * i) out ≡ joined (tables i f) →
    take (w * (i + 1)) (put_mid (w * i) m out new) ≡ joined (tables (i + 1) f)
put_row w i m f out new room l e was =
    take-put_mid (w * i) m out new (w * (i + 1)) (omega arith) room ∙ (ap₂ (λ x y. x ++ y) was e ∙ sym (joined_more f i))

-- row i of k rows of w bytes ends within them
pub row_ends_lem : (w i k : ℕ) → i < k → w * i + w ≤ w * k
row_ends_lem w i k h = omega (arith, mul-le w (i + 1) w k (omega arith) (omega arith))

-- ---- draws that are all full
full_rows : (f : ℕ → List ℕ) (i n : ℕ) → all_full (rows f i (suc n)) ≡ all_full (rows f i n) && eqb (length (f (i + n))) 256
unfolding rows all_full
full_rows f i zero = side (eqb (length (f i)) 256) ∙ ap (λ m. eqb (length (f m)) 256) {x = i} {y = i + 0} (omega arith)
  where
    side : (b : Bool) → b && true ≡ b
    side true = refl
    side false = refl
full_rows f i (suc n) = ap (λ x. eqb (length (f i)) 256 && x) (full_rows f (i + 1) n) ∙ (turn (eqb (length (f i)) 256) _ _ ∙ ap (λ m. (eqb (length (f i)) 256 && all_full (rows f (i + 1) n)) && eqb (length (f m)) 256) {x = i + 1 + n} {y = i + suc n} (omega arith))
  where
    turn : (a b c : Bool) → a && (b && c) ≡ (a && b) && c
    turn true b c = refl
    turn false b c = refl

pub full_more : (n : ℕ) (f : ℕ → List ℕ) → all_full (tables (n + 1) f) ≡ all_full (tables n f) && eqb (length (f n)) 256
full_more n f =
    ap (λ m. all_full (tables m f)) (add-one n) ∙ (full_rows f 0 n ∙ ap (λ m. all_full (tables n f) && eqb (length (f m)) 256) {x = 0 + n} {y = n} (omega arith))

pub full_none : (f : ℕ → List ℕ) → all_full (tables 0 f) ≡ true
unfolding rows all_full
full_none f = refl

at_full : (f : ℕ → List ℕ) (i n k : ℕ) → all_full (rows f i n) ≡ true → k < n → length (f (i + k)) ≡ 256
unfolding rows all_full
at_full f i zero k h l = absurd (omega arith)
at_full f i (suc n) zero h l = ap (λ m. length (f m)) {x = i + 0} {y = i} (omega arith) ∙ eqb-true _ _ (and_parts _ _ h).0
at_full f i (suc n) (suc k) h l = ap (λ m. length (f m)) {x = i + suc k} {y = i + 1 + k} (omega arith) ∙ at_full f (i + 1) n k (and_parts _ _ h).1 (omega arith)

pub full_at : (n : ℕ) (f : ℕ → List ℕ) → all_full (tables n f) ≡ true → (k : ℕ) → k < n → length (f k) ≡ 256
full_at n f h k l = ap (λ m. length (f m)) {x = k} {y = 0 + k} (omega arith) ∙ at_full f 0 n k h l

-- all are full if each is, and not if one is not
pub full_all : (n : ℕ) (f : ℕ → List ℕ) → ((k : ℕ) → k < n → length (f k) ≡ 256) → all_full (tables n f) ≡ true
full_all zero f h = full_none f
full_all (suc n) f h = ap (λ m. all_full (tables m f)) {x = suc n} {y = n + 1} (omega arith) ∙ (full_more n f ∙ ap₂ ◌&&◌ (full_all n f (λ k l. h k (omega arith))) (eq-eqb _ _ (h n (omega arith))))

pub not_full : (n : ℕ) (f : ℕ → List ℕ) (k : ℕ) → k < n → length (f k) ≢ 256 → all_full (tables n f) ≡ false
not_full n f k h short = false_unless (all_full (tables n f)) (λ e. short (full_at n f e k h))
  where
    false_unless : (b : Bool) → (b ≡ true → ⊥) → b ≡ false
    false_unless true never = absurd (never refl)
    false_unless false never = refl
