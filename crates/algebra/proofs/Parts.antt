-- Parts of a list: read as a table, written number by number, and filled one after the other until the whole is there.
use Rattle.std.proofs.Common.{◌≡◌, ℕ, ◌+◌, ◌-◌, ◌*◌, ◌<◌, ◌≤◌, List, [], ◌∷◌, ◌++◌, length, take, drop, set, sym, refl, ap, ◌∙◌, ap₂, append_assoc, arith, length-append, length-drop, length-set, take-append-drop, length-take-le, take-add}
use Rattle.std.proofs.lemmas.List.{get_or-take, get_or-drop, take_at, take_all, take_more, drop_at, drop_all, drop-drop, drop_more, set_at, set-append_right, append-nil}
use borrow.Rule.Slice.PartMut.{put_mid}
use Rattle.standards.specs.Lists.{table, at}
use Rattle.algebra.proofs.Tables.{is_table}

-- the n numbers from place k on
pub part_table : (xs : List ℕ) (k n : ℕ) → k + n ≤ length xs → take n (drop k xs) ≡ table n (λ i. at xs (k + i))
part_table xs k n h =
    is_table n (λ i. at xs (k + i)) (take n (drop k xs)) (length-take-le n (drop k xs) (omega (arith, length-drop k xs))) (λ i l. get_or-take n (drop k xs) i 0 l ∙ get_or-drop k xs i 0)

-- the first i numbers of new, written over old from place a on
pub record Written (old new : List ℕ) (a i : ℕ) (xs : List ℕ) : Type 0 where
  pub long : length xs ≡ length old
  pub is : xs ≡ take a old ++ (take i new ++ drop (a + i) old)

module _ {old new : List ℕ} {a : ℕ} where
  pub written_none : Written old new a 0 old
  written_none = record { long = refl; is = sym (ap (λ k. take a old ++ drop k old) {x = a + 0} {y = a} (omega arith) ∙ take-append-drop a old) }

  pub written_next : {i : ℕ} {xs : List ℕ} → i < length new → a + length new ≤ length old → Written old new a i xs → Written old new a (i + 1) (set xs (a + i) (at new i))
  written_next {i} {xs} h room w =
      let v = at new i in
      let rest = drop (a + (i + 1)) old in
      let head : drop (a + i) old ≡ at old (a + i) ∷ rest = drop_more old (a + i) 0 (omega arith) ∙ ap (λ k. at old (a + i) ∷ drop k old) {x = a + i + 1} {y = a + (i + 1)} (omega arith) in
      let here : (a + i) - a ≡ i = omega arith in
      record {
        long = length-set xs (a + i) v ∙ w.long;
        is = ap (λ x. set x (a + i) v) w.is ∙
            (ap (λ x. set (take a old ++ (take i new ++ x)) (a + i) v) head ∙
            (set-append_right (take a old) (take i new ++ (at old (a + i) ∷ rest)) a (a + i) v (length-take-le a old (omega arith)) (omega arith) ∙
            ap (λ x. take a old ++ x)
            (ap (λ k. set (take i new ++ (at old (a + i) ∷ rest)) k v) here ∙
            (set_at (take i new) (at old (a + i)) rest v i (length-take-le i new (omega arith)) ∙
            (sym (append_assoc (take i new) (v ∷ []) rest) ∙ ap (λ x. x ++ rest) (sym (take_more new i 0 h)))))));
      }

  pub written_all : {i : ℕ} {xs : List ℕ} → length new ≡ i → Written old new a i xs → xs ≡ take a old ++ (new ++ drop (a + i) old)
  written_all {i} e w = w.is ∙ ap (λ x. take a old ++ (x ++ drop (a + i) old)) (take_all i new (omega arith))

-- parts of w numbers each: g of them are as the goal has them, and the next one is put behind them
pub fill_next : (w g : ℕ) (xs ys rest goal : List ℕ) → length ys ≡ w → w * g ≤ length goal → take (w * g) xs ≡ take (w * g) goal → ys ≡ take w (drop (w * g) goal) →
    take (w * (g + 1)) (take (w * g) xs ++ (ys ++ rest)) ≡ take (w * (g + 1)) goal
fill_next w g xs ys rest goal l room front next =
    let a = take (w * g) xs in
    let long : length (a ++ ys) ≡ w * (g + 1) = length-append a ys ∙ omega (arith, ap length front ∙ length-take-le (w * g) goal room) in
    ap (take (w * (g + 1))) (sym (append_assoc a ys rest)) ∙
    (take_at (a ++ ys) rest (w * (g + 1)) long ∙
    (ap (λ x. x ++ ys) front ∙ (ap (λ x. take (w * g) goal ++ x) next ∙ (sym (take-add (w * g) w goal) ∙ ap (λ k. take k goal) {x = w * g + w} {y = w * (g + 1)} (omega arith)))))

-- all parts are there
pub filled : (n : ℕ) (xs goal : List ℕ) → length xs ≡ n → length goal ≡ n → take n xs ≡ take n goal → xs ≡ goal
filled n xs goal a b e = sym (take_all n xs (omega arith)) ∙ (e ∙ take_all n goal (omega arith))

-- ---- parts as the code lends them
pub part_is : (xs : List ℕ) (a n : ℕ) → take (a + n - a) (drop a xs) ≡ take n (drop a xs)
part_is xs a n = ap (λ m. take m (drop a xs)) {x = a + n - a} {y = n} (omega arith)

-- the last n
pub part_rest : (xs : List ℕ) (a n : ℕ) → length xs ≡ a + n → take (a + n - a) (drop a xs) ≡ drop a xs
part_rest xs a n l = take_all (a + n - a) (drop a xs) (simp length-drop (omega arith))

-- the first n of some room
pub room_is : (xs : List ℕ) (n : ℕ) → n ≤ length xs → length (take (n - 0) (drop 0 xs)) ≡ n
room_is xs n l = ap (λ m. length (take m xs)) {x = n - 0} {y = n} (omega arith) ∙ length-take-le n xs l

-- so far front stands in place of the first a of old; then new takes the next m
pub put_on : (a m n : ℕ) (front old mid new : List ℕ) → mid ≡ front ++ drop a old → length front ≡ a → a + m ≡ n → put_mid a m mid new ≡ (front ++ new) ++ drop n old
put_on a m n front old mid new is l e =
    ap (λ x. put_mid a m x new) is ∙
    (ap₂ (λ x y. x ++ (new ++ drop m y)) (take_at front (drop a old) a l) (drop_at front (drop a old) a l) ∙
    (ap (λ x. front ++ (new ++ x)) (drop-drop m a old ∙ ap (λ x. drop x old) e) ∙ sym (append_assoc front new (drop n old))))

pub put_end : (n : ℕ) (front old whole : List ℕ) → whole ≡ front ++ drop n old → length old ≤ n → whole ≡ front
put_end n front old whole is l = is ∙ (ap (λ x. front ++ x) (drop_all n old l) ∙ append-nil front)

-- two parts, three, and four
pub put_two : (a m0 m1 n : ℕ) (old x0 x1 y0 y1 : List ℕ) → 0 + m0 ≡ a → a + m1 ≡ n → length old ≤ n → length x0 ≡ a → x0 ≡ y0 → x1 ≡ y1 →
    put_mid a m1 (put_mid 0 m0 old x0) x1 ≡ y0 ++ y1
put_two a m0 m1 n old x0 x1 y0 y1 e0 e1 l l0 h0 h1 =
    put_end n (x0 ++ x1) old _ (put_on a m1 n x0 old (put_mid 0 m0 old x0) x1 (put_on 0 m0 a [] old old x0 refl refl e0) l0 e1) l ∙ ap₂ (λ x y. x ++ y) h0 h1

pub put_three : (a b m0 m1 m2 n : ℕ) (old x0 x1 x2 y0 y1 y2 : List ℕ) → 0 + m0 ≡ a → a + m1 ≡ b → b + m2 ≡ n → length old ≤ n →
    length x0 ≡ a → a + length x1 ≡ b → x0 ≡ y0 → x1 ≡ y1 → x2 ≡ y2 → put_mid b m2 (put_mid a m1 (put_mid 0 m0 old x0) x1) x2 ≡ y0 ++ (y1 ++ y2)
put_three a b m0 m1 m2 n old x0 x1 x2 y0 y1 y2 e0 e1 e2 l l0 l1 h0 h1 h2 =
    let w0 = put_on 0 m0 a [] old old x0 refl refl e0 in
    let w1 = put_on a m1 b x0 old _ x1 w0 l0 e1 in
    let n1 : length (x0 ++ x1) ≡ b = length-append x0 x1 ∙ omega arith in
    put_end n ((x0 ++ x1) ++ x2) old _ (put_on b m2 n (x0 ++ x1) old _ x2 w1 n1 e2) l ∙
    (append_assoc x0 x1 x2 ∙ ap₂ (λ x y. x ++ y) h0 (ap₂ (λ x y. x ++ y) h1 h2))

pub put_four : (a b d m0 m1 m2 m3 n : ℕ) (old x0 x1 x2 x3 y0 y1 y2 y3 : List ℕ) → 0 + m0 ≡ a → a + m1 ≡ b → b + m2 ≡ d → d + m3 ≡ n → length old ≤ n →
    length x0 ≡ a → a + length x1 ≡ b → b + length x2 ≡ d → x0 ≡ y0 → x1 ≡ y1 → x2 ≡ y2 → x3 ≡ y3 →
    put_mid d m3 (put_mid b m2 (put_mid a m1 (put_mid 0 m0 old x0) x1) x2) x3 ≡ y0 ++ (y1 ++ (y2 ++ y3))
put_four a b d m0 m1 m2 m3 n old x0 x1 x2 x3 y0 y1 y2 y3 e0 e1 e2 e3 l l0 l1 l2 h0 h1 h2 h3 =
    let w0 = put_on 0 m0 a [] old old x0 refl refl e0 in
    let w1 = put_on a m1 b x0 old _ x1 w0 l0 e1 in
    let n1 : length (x0 ++ x1) ≡ b = length-append x0 x1 ∙ omega arith in
    let w2 = put_on b m2 d (x0 ++ x1) old _ x2 w1 n1 e2 in
    let n2 : length ((x0 ++ x1) ++ x2) ≡ d = length-append (x0 ++ x1) x2 ∙ omega arith in
    let w3 = put_on d m3 n ((x0 ++ x1) ++ x2) old _ x3 w2 n2 e3 in
    put_end n (((x0 ++ x1) ++ x2) ++ x3) old _ w3 l ∙
    (append_assoc (x0 ++ x1) x2 x3 ∙ (append_assoc x0 x1 (x2 ++ x3) ∙ ap₂ (λ x y. x ++ y) h0 (ap₂ (λ x y. x ++ y) h1 (ap₂ (λ x y. x ++ y) h2 h3))))
