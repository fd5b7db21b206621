-- Lists made from a function of the index, and lists of numbers below a bound.
use Rattle.std.proofs.Common.{◌≡◌, ℕ, zero, suc, ◌+◌, ◌%◌, ◌<◌, ◌≤◌, T, ltb, List, [], ◌∷◌, ◌++◌, length, take, drop, set, sym, refl, ap, ◌∙◌, subst, inl, inr, mod-eq_of_lt, arith, ltb→lt, lt→ltb, length-append, get_or-set_other, get_or-set_same}
use Rattle.std.proofs.lemmas.List.{ext_get_or, get_or_past, get_or_push, get_or_append_left}
use Rattle.std.proofs.lemmas.Bool.{cases_lt, cases_eq}
use Rattle.standards.specs.Lists.{from, table, at, all_below}
use Rattle.algebra.proofs.Tests.{both, from_both}
use Rattle.algebra.proofs.Congruence.{Same}

pub length_from : (f : ℕ → ℕ) (i n : ℕ) → length (from f i n) ≡ n
unfolding from
length_from f i zero = refl
length_from f i (suc n) = omega (arith, length_from f (i + 1) n)

pub at_from : (f : ℕ → ℕ) (i n k : ℕ) → k < n → at (from f i n) k ≡ f (i + k)
unfolding from
at_from f i zero k h = absurd (omega arith)
at_from f i (suc n) zero h = ap f {x = i} {y = i + 0} (omega arith)
at_from f i (suc n) (suc k) h = at_from f (i + 1) n k (omega arith) ∙ ap f {x = i + 1 + k} {y = i + suc k} (omega arith)

pub length-table : (n : ℕ) (f : ℕ → ℕ) → length (table n f) ≡ n
length-table n f = length_from f 0 n

pub at_table : (n : ℕ) (f : ℕ → ℕ) (k : ℕ) → k < n → at (table n f) k ≡ f k
at_table n f k h = at_from f 0 n k h ∙ ap f {x = 0 + k} {y = k} (omega arith)

-- a list with f k at each place k is the table of f
pub is_table : (n : ℕ) (f : ℕ → ℕ) (xs : List ℕ) → length xs ≡ n → ((k : ℕ) → k < n → at xs k ≡ f k) → xs ≡ table n f
is_table n f xs l h = ext_get_or 0 xs (table n f) (l ∙ sym (length-table n f)) (λ k g. h k (omega arith) ∙ sym (at_table n f k (omega arith)))

pub table_same : (n : ℕ) (f g : ℕ → ℕ) → ((k : ℕ) → k < n → f k ≡ g k) → table n f ≡ table n g
table_same n f g h = is_table n g (table n f) (length-table n f) (λ k l. at_table n f k l ∙ h k l)

-- one number more, at the end
pub table_more : (n : ℕ) (f : ℕ → ℕ) → table (n + 1) f ≡ table n f ++ (f n ∷ [])
table_more n f =
    sym (is_table (n + 1) f (table n f ++ (f n ∷ [])) (length-append (table n f) (f n ∷ []) ∙ omega (arith, length-table n f)) (λ k h. elim (cases_eq k n) [
      | inl e ↦ ap (at (table n f ++ (f n ∷ []))) e ∙ (get_or_push (table n f) (f n) 0 n (length-table n f) ∙ ap f (sym e))
      | inr ne ↦ get_or_append_left (table n f) (f n ∷ []) 0 k (omega (arith, length-table n f)) ∙ at_table n f k (omega arith)
    ]))

pub at_noughts : (n k : ℕ) → at (table n (λ i. 0)) k ≡ 0
at_noughts n k = elim (cases_lt k n) [ inl l ↦ at_table n (λ i. 0) k l | inr l ↦ get_or_past (table n (λ i. 0)) k 0 (rw (length-table n (λ i. 0)) l) ]

-- one number more, at the next place
pub put_next : (f : ℕ → ℕ) (xs : List ℕ) (i : ℕ) → i < length xs → ((k : ℕ) → k < i → at xs k ≡ f k) → (k : ℕ) → k < i + 1 → at (set xs i (f i)) k ≡ f k
put_next f xs i l h k lt = elim (cases_eq k i) [
  | inl e ↦ ap (at (set xs i (f i))) e ∙ (get_or-set_same xs i (f i) 0 l ∙ ap f (sym e))
  | inr ne ↦ get_or-set_other xs i k (f i) 0 ne ∙ h k (omega arith)
]

-- ---- all below a bound, by place
pub at_below : (q : ℕ) (xs : List ℕ) (k : ℕ) → T (all_below q xs) → k < length xs → at xs k < q
unfolding all_below
at_below q [] k h l = absurd (omega arith)
at_below q (x ∷ xs) zero h l = ltb→lt x q (both (ltb x q) (all_below q xs) h).0
at_below q (x ∷ xs) (suc k) h l = at_below q xs k (both (ltb x q) (all_below q xs) h).1 (omega arith)

pub all_below_lem : (q : ℕ) (xs : List ℕ) → ((k : ℕ) → k < length xs → at xs k < q) → T (all_below q xs)
unfolding all_below
all_below_lem q [] h = tt
all_below_lem q (x ∷ xs) h = from_both (ltb x q) (all_below q xs) (lt→ltb x q (h 0 (omega arith))) (all_below_lem q xs (λ k l. h (suc k) (omega arith)))

pub below_table : (q n : ℕ) (f : ℕ → ℕ) → ((k : ℕ) → k < n → f k < q) → T (all_below q (table n f))
below_table q n f h =
    all_below_lem q (table n f) (λ k l. let lt : k < n = omega (arith, length-table n f) in subst (λ x. x < q) (sym (at_table n f k lt)) (h k lt))

pub below_weaker : (a b : ℕ) (xs : List ℕ) → a ≤ b → T (all_below a xs) → T (all_below b xs)
below_weaker a b xs l h = all_below_lem b xs (λ k s. omega (arith, at_below a xs k h s))

pub below_append : (q : ℕ) (xs ys : List ℕ) → T (all_below q xs) → T (all_below q ys) → T (all_below q (xs ++ ys))
unfolding all_below
below_append q [] ys a b = b
below_append q (x ∷ xs) ys a b =
    let h = both (ltb x q) (all_below q xs) a in
    from_both (ltb x q) (all_below q (xs ++ ys)) h.0 (below_append q xs ys h.1 b)

pub below_take : (q n : ℕ) (xs : List ℕ) → T (all_below q xs) → T (all_below q (take n xs))
unfolding all_below
below_take q zero xs a = tt
below_take q (suc n) [] a = tt
below_take q (suc n) (x ∷ xs) a =
    let h = both (ltb x q) (all_below q xs) a in
    from_both (ltb x q) (all_below q (take n xs)) h.0 (below_take q n xs h.1)

pub below_drop : (q n : ℕ) (xs : List ℕ) → T (all_below q xs) → T (all_below q (drop n xs))
unfolding all_below
below_drop q zero xs a = a
below_drop q (suc n) [] a = tt
below_drop q (suc n) (x ∷ xs) a = below_drop q n xs (both (ltb x q) (all_below q xs) a).1

-- a list of numbers below q, from a table of remainders that agree with it
pub is_remainders : (q n : ℕ) (f : ℕ → ℕ) (g : List ℕ) → length g ≡ n → T (all_below q g) → ((k : ℕ) → k < n → Same q (f k) (at g k)) → table n (λ k. f k % q) ≡ g
is_remainders q n f g l b h =
    sym (is_table n (λ k. f k % q) g l (λ k s. sym (mod-eq_of_lt (at_below q g k b (omega arith))) ∙ sym (h k s).is))

pub at_small : (q : ℕ) (f : List ℕ) → 0 < q → T (all_below q f) → (n : ℕ) → at f n < q
at_small q f p h n = elim (cases_lt n (length f)) [ inl l ↦ at_below q f n h l | inr l ↦ rw (get_or_past f n 0 l) p ]
