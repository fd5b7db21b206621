-- Rows of lists: the row at a place, and rows one after the other.
use Rattle.std.proofs.Common.{◌≡◌, ℕ, zero, suc, ◌+◌, ◌*◌, ◌<◌, ◌≤◌, T, List, ◌∷◌, ◌++◌, length, take, drop, sym, refl, ap, ◌∙◌, subst, ap₂, append_assoc, arith, length-append, take-add}
use Rattle.std.proofs.lemmas.List.{take_at, drop_at, drop-drop}
use Rattle.standards.specs.Lists.{rows, tables, row_at, joined, all_below}
use Rattle.algebra.proofs.Tables.{below_append}

row_at-rows : (f : ℕ → List ℕ) (i n k : ℕ) → k < n → row_at (rows f i n) k ≡ f (i + k)
unfolding rows
row_at-rows f i zero k h = absurd (omega arith)
row_at-rows f i (suc n) zero h = ap f {x = i} {y = i + 0} (omega arith)
row_at-rows f i (suc n) (suc k) h = row_at-rows f (i + 1) n k (omega arith) ∙ ap f {x = i + 1 + k} {y = i + suc k} (omega arith)

pub row_at_lem : (n : ℕ) (f : ℕ → List ℕ) (k : ℕ) → k < n → row_at (tables n f) k ≡ f k
row_at_lem n f k h = row_at-rows f 0 n k h ∙ ap f {x = 0 + k} {y = k} (omega arith)

length-rows : (f : ℕ → List ℕ) (i n : ℕ) → length (rows f i n) ≡ n
unfolding rows
length-rows f i zero = refl
length-rows f i (suc n) = ap suc (length-rows f (i + 1) n)

pub length-tables : (n : ℕ) (f : ℕ → List ℕ) → length (tables n f) ≡ n
length-tables n f = length-rows f 0 n

rows_same : (f g : ℕ → List ℕ) (i n : ℕ) → ((k : ℕ) → k < n → f (i + k) ≡ g (i + k)) → rows f i n ≡ rows g i n
unfolding rows
rows_same f g i zero h = refl
rows_same f g i (suc n) h =
    ap (λ x. x ∷ rows f (i + 1) n) (subst (λ x. f x ≡ g x) {x = i + 0} {y = i} (omega arith) (h 0 (omega arith))) ∙
    ap (λ x. g i ∷ x) (rows_same f g (i + 1) n (λ k l. subst (λ x. f x ≡ g x) {x = i + suc k} {y = i + 1 + k} (omega arith) (h (suc k) (omega arith))))

pub tables-same : (n : ℕ) (f g : ℕ → List ℕ) → ((k : ℕ) → k < n → f k ≡ g k) → tables n f ≡ tables n g
tables-same n f g h = rows_same f g 0 n (λ k l. subst (λ x. f x ≡ g x) {x = k} {y = 0 + k} (omega arith) (h k l))

-- ---- parts of bytes
pub drop_past : (a b : List ℕ) (n m k : ℕ) → length a ≡ n → k ≡ n + m → drop k (a ++ b) ≡ drop m b
drop_past a b n m k e s = ap (λ x. drop x (a ++ b)) s ∙ (sym (drop-drop m n (a ++ b)) ∙ ap (drop m) (drop_at a b n e))

module _ (w : ℕ) (f : ℕ → List ℕ) (each : (k : ℕ) → length (f k) ≡ w) where
  length_run : (i n : ℕ) → length (joined (rows f i n)) ≡ w * n
  unfolding joined rows
  length_run i zero = omega arith
  length_run i (suc n) = length-append (f i) (joined (rows f (i + 1) n)) ∙ omega (arith, each i, length_run (i + 1) n)

  pub length-joined : (n : ℕ) → length (joined (tables n f)) ≡ w * n
  length-joined n = length_run 0 n

  piece_from : (i n k : ℕ) → k < n → (rest : List ℕ) → take w (drop (w * k) (joined (rows f i n) ++ rest)) ≡ f (i + k)
  unfolding joined rows
  piece_from i zero k h rest = absurd (omega arith)
  piece_from i (suc n) zero h rest =
      ap (λ x. take w (drop x ((f i ++ joined (rows f (i + 1) n)) ++ rest))) {x = w * 0} {y = 0} (omega arith) ∙
      (ap (take w) (append_assoc (f i) (joined (rows f (i + 1) n)) rest) ∙ (take_at (f i) (joined (rows f (i + 1) n) ++ rest) w (each i) ∙ ap f {x = i} {y = i + 0} (omega arith)))
  piece_from i (suc n) (suc k) h rest =
      ap (λ x. take w (drop (w * suc k) x)) (append_assoc (f i) (joined (rows f (i + 1) n)) rest) ∙
      (ap (take w) (drop_past (f i) (joined (rows f (i + 1) n) ++ rest) w (w * k) (w * suc k) (each i) (omega arith)) ∙
      (piece_from (i + 1) n k (omega arith) rest ∙ ap f {x = i + 1 + k} {y = i + suc k} (omega arith)))

  -- the k-th of n pieces of w bytes each, whatever stands behind them
  pub piece : (n k : ℕ) → k < n → (rest : List ℕ) → take w (drop (w * k) (joined (tables n f) ++ rest)) ≡ f k
  piece n k h rest = piece_from 0 n k h rest ∙ ap f {x = 0 + k} {y = k} (omega arith)

below_rows : (q : ℕ) (f : ℕ → List ℕ) (i n : ℕ) → ((k : ℕ) → T (all_below q (f k))) → T (all_below q (joined (rows f i n)))
unfolding rows joined all_below
below_rows q f i zero h = tt
below_rows q f i (suc n) h = below_append q (f i) (joined (rows f (i + 1) n)) (h i) (below_rows q f (i + 1) n h)

pub below_joined : (q n : ℕ) (f : ℕ → List ℕ) → ((k : ℕ) → T (all_below q (f k))) → T (all_below q (joined (tables n f)))
below_joined q n f h = below_rows q f 0 n h

-- parts of w each, from c on, one after the other
parts_rows : (s : List ℕ) (c w : ℕ) (f : ℕ → List ℕ) (i n : ℕ) → ((j : ℕ) → i ≤ j → j < i + n → f j ≡ take w (drop (c + w * j) s)) → joined (rows f i n) ≡ take (w * n) (drop (c + w * i) s)
unfolding joined rows
parts_rows s c w f i zero h = ap (λ k. take k (drop (c + w * i) s)) (let z : 0 ≡ w * 0 = omega arith in z)
parts_rows s c w f i (suc n) h =
    let on : c + w * (i + 1) ≡ c + w * i + w = omega arith in
    let sum : w + w * n ≡ w * suc n = omega arith in
    ap₂ (λ (a b : List ℕ). a ++ b) (h i (omega arith) (omega arith))
    (parts_rows s c w f (i + 1) n (λ j lo hi. h j (omega arith) (omega arith)) ∙ (ap (λ k. take (w * n) (drop k s)) on ∙ ap (take (w * n)) (sym (drop-drop w (c + w * i) s)))) ∙
    (sym (take-add w (w * n) (drop (c + w * i) s)) ∙ ap (λ k. take k (drop (c + w * i) s)) sum)

pub parts_joined : (s : List ℕ) (c w : ℕ) (f : ℕ → List ℕ) (n : ℕ) → ((j : ℕ) → j < n → f j ≡ take w (drop (c + w * j) s)) → joined (tables n f) ≡ take (w * n) (drop c s)
parts_joined s c w f n h = parts_rows s c w f 0 n (λ j lo hi. h j (omega arith)) ∙ ap (λ k. take (w * n) (drop k s)) {x = c + w * 0} {y = c} (omega arith)
