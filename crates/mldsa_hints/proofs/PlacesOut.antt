-- Places counted and written, row by row.
use Rattle.std.proofs.Common.{◌≡◌, ℕ, ◌+◌, ◌-◌, ◌<◌, ◌≤◌, Bool, true, false, cond, not, eqb, ◌≢◌, List, [], ◌∷◌, ◌++◌, length, get_or, take, drop, set, replicate, sym, refl, ap, ◌∙◌, ap₂, arith}
use mir.Val.{bool_byte}
use borrow.Rule.Slice.PartMut.{put_mid}
use Rattle.std.proofs.lemmas.Slice.{take-put_mid, drop-put_mid}
use Rattle.std.proofs.lemmas.List.{append-nil, append_assoc, length-append, length-take-le, length-drop, drop-drop, drop-set-add, take-set-le, take_more_set, take_all, take-take, take_at, at_drop_more, at_drop_all}
use Rattle.std.proofs.lemmas.Bool.{cond_both, cond-true, cond-false, ne_eqb, eq-eqb}
use Rattle.standards.specs.Lists.{table}
use Rattle.standards.specs.MlDsaParts.{places, all_places, row_ends}
use Rattle.mldsa_laws.proofs.Places.{places_none, places-append, noughts}

-- ---- one place
place_is : (i b : ℕ) → places i (b ∷ []) ≡ cond (eqb b 0) [] (i ∷ [])
unfolding places
place_is i b = refl

pub one_place : (i b : ℕ) → b ≢ 0 → places i (b ∷ []) ≡ i ∷ []
one_place i b h = place_is i b ∙ cond-false (eqb b 0) [] (i ∷ []) (ne_eqb b 0 h)

pub no_place : (i b : ℕ) → b ≡ 0 → places i (b ∷ []) ≡ []
no_place i b h = place_is i b ∙ cond-true (eqb b 0) [] (i ∷ []) (eq-eqb b 0 h)

pub length_place : (i b : ℕ) → length (places i (b ∷ [])) ≡ bool_byte (not (eqb b 0))
length_place i b =
    ap length (place_is i b) ∙ cond_both (eqb b 0) [] (i ∷ []) (λ m. length m ≡ bool_byte (not (eqb b 0))) (λ e. ap (λ t. bool_byte (not t)) (sym e)) (λ e. ap (λ t. bool_byte (not t)) (sym e))

places_next : (i : ℕ) (row : List ℕ) → i < length row → places i (drop i row) ≡ places i (get_or row i 0 ∷ []) ++ places (i + 1) (drop (i + 1) row)
places_next i row h = at_drop_more (places i) row i 0 h ∙ places-append i (get_or row i 0 ∷ []) (drop (i + 1) row)

places_past : (i : ℕ) (row : List ℕ) → length row ≤ i → places i (drop i row) ≡ []
places_past i row h = at_drop_all (places i) row i h ∙ places_none i

-- ---- the places of a row are counted
pub at_most_one : (b : Bool) → bool_byte (not b) ≤ 1
at_most_one true = omega arith
at_most_one false = omega arith

pub count_next : (row : List ℕ) (i n m all : ℕ) → i < length row → m ≡ bool_byte (not (eqb (get_or row i 0) 0)) → n + length (places i (drop i row)) ≡ all →
    (n + m) + length (places (i + 1) (drop (i + 1) row)) ≡ all
count_next row i n m all h is e =
    let x = get_or row i 0 in
    let rest = places (i + 1) (drop (i + 1) row) in
    let split : length (places i (drop i row)) ≡ length (places i (x ∷ [])) + length rest = ap length (places_next i row h) ∙ length-append (places i (x ∷ [])) rest in
    omega (arith, split, length_place i x)

pub count_last : (row : List ℕ) (i n all : ℕ) → length row ≤ i → n + length (places i (drop i row)) ≡ all → n ≡ all
count_last row i n all h e = let none : length (places i (drop i row)) ≡ 0 = ap length (places_past i row h) in omega arith

-- ---- and written behind what was there; goal is what is there in the end
pub row_next : (row out out1 : List ℕ) (i n n1 : ℕ) (goal : List ℕ) → i < length row → take n1 out1 ≡ take n out ++ places i (get_or row i 0 ∷ []) →
    take n out ++ places i (drop i row) ≡ goal → take n1 out1 ++ places (i + 1) (drop (i + 1) row) ≡ goal
row_next row out out1 i n n1 goal h t e =
    ap (λ a. a ++ places (i + 1) (drop (i + 1) row)) t ∙
    (append_assoc (take n out) (places i (get_or row i 0 ∷ [])) (places (i + 1) (drop (i + 1) row)) ∙ (ap (λ a. take n out ++ a) (sym (places_next i row h)) ∙ e))

-- there is room for the place of a one
pub place_room : (row out : List ℕ) (i n : ℕ) (goal : List ℕ) → i < length row → n ≤ length out → get_or row i 0 ≢ 0 → take n out ++ places i (drop i row) ≡ goal → length goal ≤ length out → n < length out
place_room row out i n goal h l one e g =
    let x = places i (get_or row i 0 ∷ []) in
    let rest = places (i + 1) (drop (i + 1) row) in
    omega (arith, ap length (one_place i (get_or row i 0) one), length-append (take n out) (places i (drop i row)), ap length (places_next i row h), length-append x rest, length-take-le n out l, ap length e)

-- a one: its place is written
pub place_put : (row out : List ℕ) (i n : ℕ) (goal : List ℕ) → i < length row → n < length out → get_or row i 0 ≢ 0 → take n out ++ places i (drop i row) ≡ goal →
    take (n + 1) (set out n i) ++ places (i + 1) (drop (i + 1) row) ≡ goal
place_put row out i n goal h room one e =
    row_next row out (set out n i) i n (n + 1) goal h (take_more_set out n i room ∙ ap (λ l. take n out ++ l) (sym (one_place i _ one))) e

-- a nought: nothing is
pub place_skip : (row out : List ℕ) (i n : ℕ) (goal : List ℕ) → i < length row → get_or row i 0 ≡ 0 → take n out ++ places i (drop i row) ≡ goal →
    take n out ++ places (i + 1) (drop (i + 1) row) ≡ goal
place_skip row out i n goal h none e =
    row_next row out out i n n goal h (sym (ap (λ l. take n out ++ l) (no_place i _ none) ∙ append-nil _)) e

pub row_last : (row out : List ℕ) (i n : ℕ) (goal : List ℕ) → length row ≤ i → take n out ++ places i (drop i row) ≡ goal → take n out ≡ goal
row_last row out i n goal h e = sym (append-nil (take n out)) ∙ (ap (λ a. take n out ++ a) (sym (places_past i row h)) ∙ e)

-- what agrees from n on agrees from any later place on
pub drop-later : {X : Type 0} (n m : ℕ) (a b : List X) → n ≤ m → drop n a ≡ drop n b → drop m a ≡ drop m b
drop-later n m a b h e =
    let at : n + (m - n) ≡ m = omega arith in
    ap (λ j. drop j a) (sym at) ∙ (sym (drop-drop (m - n) n a) ∙ (ap (drop (m - n)) e ∙ (drop-drop (m - n) n b ∙ ap (λ j. drop j b) at)))

-- ---- all rows
all_none : all_places [] ≡ []
unfolding all_places
all_none = refl

all_more : (x : List ℕ) (xs : List (List ℕ)) → all_places (x ∷ xs) ≡ places 0 x ++ all_places xs
unfolding all_places
all_more x xs = refl

ends_none : (n : ℕ) → row_ends n [] ≡ []
unfolding row_ends
ends_none n = refl

ends_more : (n : ℕ) (x : List ℕ) (xs : List (List ℕ)) → row_ends n (x ∷ xs) ≡ (n + length (places 0 x)) ∷ row_ends (n + length (places 0 x)) xs
unfolding row_ends
ends_more n x xs = refl

all_next : (i : ℕ) (hs : List (List ℕ)) → i < length hs → all_places (drop i hs) ≡ places 0 (get_or hs i []) ++ all_places (drop (i + 1) hs)
all_next i hs h = at_drop_more all_places hs i [] h ∙ all_more (get_or hs i []) (drop (i + 1) hs)

all_past : (i : ℕ) (hs : List (List ℕ)) → length hs ≤ i → all_places (drop i hs) ≡ []
all_past i hs h = at_drop_all all_places hs i h ∙ all_none

pub counts_next : (hs : List (List ℕ)) (i n m all : ℕ) → i < length hs → m ≡ length (places 0 (get_or hs i [])) → n + length (all_places (drop i hs)) ≡ all → (n + m) + length (all_places (drop (i + 1) hs)) ≡ all
counts_next hs i n m all h is e =
    omega (arith, ap length (all_next i hs h), length-append (places 0 (get_or hs i [])) (all_places (drop (i + 1) hs)))

pub counts_last : (hs : List (List ℕ)) (i n all : ℕ) → length hs ≤ i → n + length (all_places (drop i hs)) ≡ all → n ≡ all
counts_last hs i n all h e = let none : length (all_places (drop i hs)) ≡ 0 = ap length (all_past i hs h) in omega arith

-- there is room for a row's places
pub rows_room : (hs : List (List ℕ)) (om i n : ℕ) (out : List ℕ) → i < length hs → n ≤ length out → length (all_places hs) ≤ om →
    take n out ++ all_places (drop i hs) ≡ all_places hs → n + length (places 0 (get_or hs i [])) ≤ om
rows_room hs om i n out h l few e =
    omega (arith, ap length (all_next i hs h), length-append (places 0 (get_or hs i [])) (all_places (drop (i + 1) hs)), length-append (take n out) (all_places (drop i hs)), length-take-le n out l, ap length e)

-- the places of a row go in at n, in front of what stood there up to om
pub places_put : (row out part tail : List ℕ) (om n m : ℕ) → n ≤ om → om ≤ length out → m ≡ length (places 0 row) → part ≡ places 0 row ++ tail → length part ≡ om - n →
    (take (n + m) (put_mid n (om - n) out part) ≡ take n out ++ places 0 row) × (drop om (put_mid n (om - n) out part) ≡ drop om out)
places_put row out part tail om n m h room count is long =
    let ps = places 0 row in
    let out1 = put_mid n (om - n) out part in
    let le : n + m ≤ om = omega (arith, ap length is, length-append ps tail) in
    let all : take om out1 ≡ (take n out ++ ps) ++ tail =
    take-put_mid n (om - n) out part om (omega arith) (omega arith) ∙ (ap (λ xs. take n out ++ xs) is ∙ sym (append_assoc (take n out) ps tail)) in
    let len : length (take n out ++ ps) ≡ n + m = length-append (take n out) ps ∙ omega (arith, length-take-le n out (omega arith)) in (
      sym (take-take (n + m) om out1 le) ∙ (ap (take (n + m)) all ∙ take_at (take n out ++ ps) tail (n + m) len),
      drop-put_mid n (om - n) out part om (omega arith) (omega arith) long,
    )

-- the places of row i go in from n to n1, and n1 goes in as its end
pub rows_next : (hs : List (List ℕ)) (om i n n1 : ℕ) (out out1 : List ℕ) → i < length hs → length out ≡ om + length hs → n1 ≤ om →
    n1 ≡ n + length (places 0 (get_or hs i [])) → take n1 out1 ≡ take n out ++ places 0 (get_or hs i []) → drop om out1 ≡ drop om out →
    take n out ++ all_places (drop i hs) ≡ all_places hs → take i (drop om out) ++ row_ends n (drop i hs) ≡ row_ends 0 hs →
    (take n1 (set out1 (om + i) n1) ++ all_places (drop (i + 1) hs) ≡ all_places hs) × (take (i + 1) (drop om (set out1 (om + i) n1)) ++ row_ends n1 (drop (i + 1) hs) ≡ row_ends 0 hs)
rows_next hs om i n n1 out out1 l long fits is front back-drop e d =
    let row = get_or hs i [] in
    let tail = drop (i + 1) hs in
    let le : n1 ≤ om + i = omega arith in
    let in-range : i < length (drop om out) = simp length-drop (omega arith) in (
      ap (λ a. a ++ all_places tail) (take-set-le n1 out1 (om + i) n1 le ∙ front) ∙ (append_assoc (take n out) (places 0 row) (all_places tail) ∙ (ap (λ a. take n out ++ a) (sym (all_next i hs l)) ∙ e)),
      ap (λ a. take (i + 1) a ++ row_ends n1 tail) (drop-set-add om out1 i n1 ∙ ap (λ a. set a i n1) back-drop) ∙
          (ap (λ a. a ++ row_ends n1 tail) (take_more_set (drop om out) i n1 in-range) ∙
          (append_assoc (take i (drop om out)) (n1 ∷ []) (row_ends n1 tail) ∙
          (ap (λ m. take i (drop om out) ++ (m ∷ row_ends m tail)) is ∙ (ap (λ a. take i (drop om out) ++ a) (sym (at_drop_more (row_ends n) hs i [] l ∙ ends_more n row tail)) ∙ d)))),
    )

rows-places : (hs : List (List ℕ)) (i n : ℕ) (out : List ℕ) → length hs ≤ i → take n out ++ all_places (drop i hs) ≡ all_places hs → take n out ≡ all_places hs
rows-places hs i n out h e = sym (append-nil (take n out)) ∙ (ap (λ a. take n out ++ a) (sym (all_past i hs h)) ∙ e)

rows_ends : (hs : List (List ℕ)) (om i n : ℕ) (out : List ℕ) → length hs ≤ i → length out ≡ om + length hs → take i (drop om out) ++ row_ends n (drop i hs) ≡ row_ends 0 hs → drop om out ≡ row_ends 0 hs
rows_ends hs om i n out h long e =
    let all : length (drop om out) ≤ i = simp length-drop (omega arith) in
    sym (take_all i (drop om out) all) ∙ (sym (append-nil (take i (drop om out))) ∙ (ap (λ a. take i (drop om out) ++ a) (sym (at_drop_all (row_ends n) hs i h ∙ ends_none n)) ∙ e))

-- noughts from n to om
pub rows_last : (hs : List (List ℕ)) (om i n : ℕ) (out : List ℕ) → length hs ≤ i → n ≤ om → length out ≡ om + length hs →
    take n out ++ all_places (drop i hs) ≡ all_places hs → take i (drop om out) ++ row_ends n (drop i hs) ≡ row_ends 0 hs →
    take n out ++ (replicate (om - n) 0 ++ drop (om - n) (drop n out)) ≡ (all_places hs ++ table (om - length (all_places hs)) (λ i. 0)) ++ row_ends 0 hs
rows_last hs om i n out l h long e d =
    let p = rows-places hs i n out l e in
    let at : n + (om - n) ≡ om = omega arith in
    let len : n ≡ length (all_places hs) = sym (length-take-le n out (omega arith)) ∙ ap length p in
    let zeros : replicate (om - n) 0 ≡ table (om - length (all_places hs)) (λ i. 0) = ap (λ k. replicate (om - k) 0) len ∙ sym (noughts 0 (om - length (all_places hs))) in
    ap (λ a. take n out ++ (replicate (om - n) 0 ++ a)) (drop-drop (om - n) n out ∙ (ap (λ j. drop j out) at ∙ rows_ends hs om i n out l long d)) ∙
    (ap₂ (λ a b. a ++ (b ++ row_ends 0 hs)) p zeros ∙ sym (append_assoc (all_places hs) _ (row_ends 0 hs)))
