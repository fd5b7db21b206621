-- Hints as bytes and back: places that rise, ends that count, noughts for the rest.
use Rattle.std.proofs.Common.{◌≡◌, ℕ, zero, suc, ◌+◌, ◌-◌, ◌<◌, ◌≤◌, T, eqb, ltb, List, [], ◌∷◌, ◌++◌, length, take, drop, set, sym, refl, ap, ◌∙◌, subst, append_assoc, arith, le→leb, lt→ltb, length-append}
use Rattle.std.proofs.lemmas.List.{take_at, drop_at, take_all, get_or-append-add, ext_get_or, length-set, get_or-set_same, get_or-set_other}
use Rattle.std.proofs.lemmas.Bool.{cond_both, eqb-true, eqb-false}
use Rattle.standards.specs.Lists.{table, at, row_at, all_below}
use Rattle.standards.specs.MlDsaParts.{DsaSet, places, all_places, row_ends, hint_bit_pack}
use Rattle.standards.specs.MlDsa.{hint_part, hint_end, hint_begin, hint_places, rising, marked, hint_row, hints_rise, hint_padding_zero}
use Rattle.algebra.proofs.Tests.{from_both}
use Rattle.algebra.proofs.Tables.{length-table, at_noughts, all_below_lem, below_table, below_append}
use Rattle.mldsa_laws.proofs.HintCounts.{begin_later}

-- ---- one row
rising-after : (x j : ℕ) (xs : List ℕ) → x < j → T (rising (x ∷ places j xs))
unfolding rising places
rising-after x j [] h = tt
rising-after x j (b ∷ bs) h =
    cond_both (eqb b 0) (places (j + 1) bs) (j ∷ places (j + 1) bs) (λ ps. T (rising (x ∷ ps))) (λ _. rising-after x (j + 1) bs (omega arith)) (λ _. from_both (ltb x j) (rising (j ∷ places (j + 1) bs)) (lt→ltb x j h) (rising-after j (j + 1) bs (omega arith)))

pub rising-places : (i : ℕ) (xs : List ℕ) → T (rising (places i xs))
unfolding rising places
rising-places i [] = tt
rising-places i (b ∷ bs) = cond_both (eqb b 0) (places (i + 1) bs) (i ∷ places (i + 1) bs) (λ ps. T (rising ps)) (λ _. rising-places (i + 1) bs) (λ _. rising-after i (i + 1) bs (omega arith))

places_below : (b i : ℕ) (xs : List ℕ) → i + length xs ≤ b → T (all_below b (places i xs))
unfolding places all_below
places_below b i [] h = tt
places_below b i (x ∷ xs) h =
    cond_both (eqb x 0) (places (i + 1) xs) (i ∷ places (i + 1) xs) (λ ps. T (all_below b ps)) (λ _. places_below b (i + 1) xs (omega arith)) (λ _. from_both (ltb i b) (all_below b (places (i + 1) xs)) (lt→ltb i b (omega arith)) (places_below b (i + 1) xs (omega arith)))

length_marked : (ps c : List ℕ) → length (marked ps c) ≡ length c
unfolding marked
length_marked [] c = refl
length_marked (p ∷ ps) c = length_marked ps (set c p 1) ∙ length-set c p 1

marked_before : (xs : List ℕ) (i : ℕ) (c : List ℕ) (n : ℕ) → n < i → at (marked (places i xs) c) n ≡ at c n
unfolding marked places
marked_before [] i c n h = refl
marked_before (b ∷ bs) i c n h =
    cond_both (eqb b 0) (places (i + 1) bs) (i ∷ places (i + 1) bs) (λ ps. at (marked ps c) n ≡ at c n) (λ _. marked_before bs (i + 1) c n (omega arith))
    (λ _. marked_before bs (i + 1) (set c i 1) n (omega arith) ∙ get_or-set_other c i n 1 0 (λ x. omega arith))

marked-at : (xs : List ℕ) (i : ℕ) (c : List ℕ) (m : ℕ) → m < length xs → i + length xs ≤ length c → ((n : ℕ) → i ≤ n → at c n ≡ 0) → ((n : ℕ) → n < length xs → at xs n ≤ 1) → at (marked (places i xs) c) (i + m) ≡ at xs m
unfolding marked places
marked-at [] i c m h l z one = absurd (omega arith)
marked-at (b ∷ bs) i c zero h l z one =
    cond_both (eqb b 0) (places (i + 1) bs) (i ∷ places (i + 1) bs) (λ ps. at (marked ps c) (i + 0) ≡ b)
    (λ e. marked_before bs (i + 1) c (i + 0) (omega arith) ∙ (z (i + 0) (omega arith) ∙ sym (eqb-true b 0 e)))
    (λ e. marked_before bs (i + 1) (set c i 1) (i + 0) (omega arith) ∙ (ap (at (set c i 1)) {x = i + 0} {y = i} (omega arith) ∙ (get_or-set_same c i 1 0 (omega arith) ∙ is_one b (one 0 (omega arith)) (eqb-false b 0 e))))
  where
    is_one : (b : ℕ) → b ≤ 1 → (b ≡ 0 → ⊥) → 1 ≡ b
    is_one b l n = omega arith
marked-at (b ∷ bs) i c (suc m) h l z one =
    cond_both (eqb b 0) (places (i + 1) bs) (i ∷ places (i + 1) bs) (λ ps. at (marked ps c) (i + suc m) ≡ at bs m)
    (λ e. ap (at (marked (places (i + 1) bs) c)) {x = i + suc m} {y = i + 1 + m} (omega arith) ∙ marked-at bs (i + 1) c m (omega arith) (omega arith) (λ n k. z n (omega arith)) (λ n k. one (suc n) (omega arith)))
    (λ e. ap (at (marked (places (i + 1) bs) (set c i 1))) {x = i + suc m} {y = i + 1 + m} (omega arith) ∙
    marked-at bs (i + 1) (set c i 1) m (omega arith) (rw (length-set c i 1) (omega arith)) (λ n k. get_or-set_other c i n 1 0 (λ x. omega arith) ∙ z n (omega arith)) (λ n k. one (suc n) (omega arith)))

pub marked-places : (xs : List ℕ) → length xs ≡ 256 → ((n : ℕ) → n < 256 → at xs n ≤ 1) → marked (places 0 xs) (table 256 (λ n. 0)) ≡ xs
marked-places xs l one =
    ext_get_or 0 (marked (places 0 xs) (table 256 (λ n. 0))) xs (same_length ∙ sym l)
    (λ k h. ap (at (marked (places 0 xs) (table 256 (λ n. 0)))) {x = k} {y = 0 + k} (omega arith) ∙
    marked-at xs 0 (table 256 (λ n. 0)) k (omega (arith, same_length)) (omega (arith, length-table 256 (λ n. 0))) (λ n _. at_noughts 256 n) (λ n b. one n (omega arith)))
  where
    same_length : length (marked (places 0 xs) (table 256 (λ n. 0))) ≡ 256
    same_length = length_marked (places 0 xs) (table 256 (λ n. 0)) ∙ length-table 256 (λ n. 0)

-- ---- all rows. What stands before row i
abbrev pub before : List (List ℕ) → ℕ → List ℕ
before hs i = all_places (take i hs)

places_split : (hs : List (List ℕ)) (i : ℕ) → i < length hs → all_places hs ≡ before hs i ++ (places 0 (row_at hs i) ++ all_places (drop (suc i) hs))
unfolding all_places
places_split [] i h = absurd (omega arith)
places_split (x ∷ xs) zero h = refl
places_split (x ∷ xs) (suc i) h = ap (λ r. places 0 x ++ r) (places_split xs i (omega arith)) ∙ sym (append_assoc (places 0 x) (before xs i) (places 0 (row_at xs i) ++ all_places (drop (suc i) xs)))

before_more : (hs : List (List ℕ)) (i : ℕ) → i < length hs → length (before hs (suc i)) ≡ length (before hs i) + length (places 0 (row_at hs i))
unfolding all_places
before_more [] i h = absurd (omega arith)
before_more (x ∷ xs) zero h = length-append (places 0 x) [] ∙ omega arith
before_more (x ∷ xs) (suc i) h = omega (arith, length-append (places 0 x) (before xs (suc i)), length-append (places 0 x) (before xs i), before_more xs i (omega arith))

all_places_below : (hs : List (List ℕ)) → ((i : ℕ) → i < length hs → length (row_at hs i) ≡ 256) → T (all_below 256 (all_places hs))
unfolding all_places all_below
all_places_below [] h = tt
all_places_below (x ∷ xs) h = below_append 256 (places 0 x) (all_places xs) (places_below 256 0 x (omega (arith, h 0 (omega arith)))) (all_places_below xs (λ i l. h (suc i) (omega arith)))

ends_at : (n : ℕ) (hs : List (List ℕ)) (i : ℕ) → i < length hs → at (row_ends n hs) i ≡ n + length (before hs (suc i))
unfolding all_places row_ends
ends_at n [] i h = absurd (omega arith)
ends_at n (x ∷ xs) zero h = omega (arith, length-append (places 0 x) [])
ends_at n (x ∷ xs) (suc i) h = omega (arith, ends_at (n + length (places 0 x)) xs i (omega arith), length-append (places 0 x) (before xs (suc i)))

pub length_ends : (n : ℕ) (hs : List (List ℕ)) → length (row_ends n hs) ≡ length hs
unfolding row_ends
length_ends n [] = refl
length_ends n (x ∷ xs) = ap suc (length_ends (n + length (places 0 x)) xs)

before_le : (hs : List (List ℕ)) (i : ℕ) → i < length hs → length (before hs (suc i)) ≤ length (all_places hs)
before_le hs i h = omega (arith, before_more hs i h, ap length (places_split hs i h), length-append (before hs i) (places 0 (row_at hs i) ++ all_places (drop (suc i) hs)), length-append (places 0 (row_at hs i)) (all_places (drop (suc i) hs)))

module _ (p : DsaSet) (s : List ℕ) (hs : List (List ℕ)) (part : hint_part p s ≡ hint_bit_pack p hs) (fits : length (all_places hs) ≤ p.omega) (all_rows : length hs ≡ p.k) where
  filled : length (all_places hs ++ table (p.omega - length (all_places hs)) (λ i. 0)) ≡ p.omega
  filled = length-append (all_places hs) (table (p.omega - length (all_places hs)) (λ i. 0)) ∙ omega (arith, length-table (p.omega - length (all_places hs)) (λ i. 0))

  end_is : (i : ℕ) → i < p.k → hint_end p s i ≡ length (before hs (suc i))
  end_is i h =
      ap (λ b. at b (p.omega + i)) part ∙
      (ap (λ n. at (hint_bit_pack p hs) (n + i)) (sym filled) ∙
      (get_or-append-add (all_places hs ++ table (p.omega - length (all_places hs)) (λ i. 0)) (row_ends 0 hs) i 0 ∙ (ends_at 0 hs i (omega (arith, all_rows)) ∙ omega arith)))

  begin_is : (i : ℕ) → i < p.k → hint_begin p s i ≡ length (before hs i)
  unfolding all_places
  begin_is zero h = refl
  begin_is (suc i) h = begin_later p s (suc i) (omega arith) ∙ (ap (hint_end p s) {x = suc i - 1} {y = i} (omega arith) ∙ end_is i (omega arith))

  some_is : (i : ℕ) → i < p.k → hint_places p s i ≡ places 0 (row_at hs i)
  some_is i h =
      ap (λ b. take (hint_end p s i - hint_begin p s i) (drop (hint_begin p s i) b)) (part ∙ whole) ∙
      (ap (λ n. take (hint_end p s i - hint_begin p s i) (drop n (before hs i ++ tail))) (begin_is i h) ∙
      (ap (take (hint_end p s i - hint_begin p s i)) (drop_at (before hs i) tail (length (before hs i)) refl) ∙
      take_at (places 0 (row_at hs i)) _ (hint_end p s i - hint_begin p s i) (omega (arith, end_is i h, begin_is i h, before_more hs i (omega (arith, all_rows))))))
    where
      rest : List ℕ
      rest = table (p.omega - length (all_places hs)) (λ i. 0)

      tail : List ℕ
      tail = places 0 (row_at hs i) ++ ((all_places (drop (suc i) hs) ++ rest) ++ row_ends 0 hs)

      whole : hint_bit_pack p hs ≡ before hs i ++ tail
      whole = ap (λ x. (x ++ rest) ++ row_ends 0 hs) (places_split hs i (omega (arith, all_rows))) ∙ simp append_assoc

  pub hint_back : (i : ℕ) → i < p.k → length (row_at hs i) ≡ 256 → ((n : ℕ) → n < 256 → at (row_at hs i) n ≤ 1) → hint_row p s i ≡ row_at hs i
  hint_back i h l one = ap (λ ps. marked ps (table 256 (λ n. 0))) (some_is i h) ∙ marked-places (row_at hs i) l one

  pub good_hints : (n : ℕ) → n ≤ p.k → T (hints_rise p s n)
  unfolding hints_rise
  good_hints zero h = tt
  good_hints (suc n) h =
      from_both _ _ (from_both _ _ (from_both _ _ (le→leb (hint_begin p s n) (hint_end p s n) (omega (arith, begin_is n h, end_is n h, before_more hs n (omega (arith, all_rows))))) (le→leb (hint_end p s n) p.omega (omega (arith, end_is n h, before_le hs n (omega (arith, all_rows)), fits))))
      (subst (λ x. T (rising x)) (sym (some_is n h)) (rising-places 0 (row_at hs n)))) (good_hints n (omega arith))

  pub rest_zero : 0 < p.k → T (hint_padding_zero p s)
  rest_zero pos = subst (λ x. T (all_below 1 x)) (sym is) (below_table 1 (p.omega - length (all_places hs)) (λ i. 0) (λ k l. omega arith))
    where
      rest : List ℕ
      rest = table (p.omega - length (all_places hs)) (λ i. 0)

      last : hint_end p s (p.k - 1) ≡ length (all_places hs)
      last = end_is (p.k - 1) (omega arith) ∙ ap (λ x. length (all_places x)) (take_all (suc (p.k - 1)) hs (omega (arith, all_rows)))

      is : take (p.omega - hint_end p s (p.k - 1)) (drop (hint_end p s (p.k - 1)) (hint_part p s)) ≡ rest
      is =
          ap (λ b. take (p.omega - hint_end p s (p.k - 1)) (drop (hint_end p s (p.k - 1)) b)) (part ∙ append_assoc (all_places hs) rest (row_ends 0 hs)) ∙
          (ap (λ n. take (p.omega - n) (drop n (all_places hs ++ (rest ++ row_ends 0 hs)))) last ∙
          (ap (take (p.omega - length (all_places hs))) (drop_at (all_places hs) (rest ++ row_ends 0 hs) (length (all_places hs)) refl) ∙ take_at rest (row_ends 0 hs) (p.omega - length (all_places hs)) (length-table (p.omega - length (all_places hs)) (λ i. 0))))

  pub length_hints : length (hint_bit_pack p hs) ≡ p.omega + p.k
  length_hints = length-append (all_places hs ++ table (p.omega - length (all_places hs)) (λ i. 0)) (row_ends 0 hs) ∙ omega (arith, filled, length_ends 0 hs, all_rows)

  pub bytes_hints : p.omega < 256 → ((i : ℕ) → i < length hs → length (row_at hs i) ≡ 256) → T (all_below 256 (hint_bit_pack p hs))
  bytes_hints small long =
      below_append 256 (all_places hs ++ table (p.omega - length (all_places hs)) (λ i. 0)) (row_ends 0 hs)
      (below_append 256 (all_places hs) _ (all_places_below hs long) (below_table 256 (p.omega - length (all_places hs)) (λ i. 0) (λ k l. omega arith)))
      (all_below_lem 256 (row_ends 0 hs) (λ k l. let lt : k < length hs = omega (arith, length_ends 0 hs) in omega (arith, ends_at 0 hs k lt, before_le hs k lt)))
