-- One character, byte or pair of digits more, and the rules that the check applies by itself.
use Rattle.std.proofs.Common.{◌≡◌, ℕ, zero, suc, ◌+◌, ◌*◌, ◌/◌, ◌%◌, ◌<◌, ◌≤◌, Bool, true, false, T, cond, ◌&&◌, ltb, List, [], ◌∷◌, ◌++◌, length, drop, refl, ap, ◌∙◌, append_assoc, Fits, w8, lt→ltb, arith}
use Rattle.std.specs.Simd.{first_chunks}
use Rattle.std.specs.Str.{IsAscii, IsUtf8}
use Rattle.std.proofs.lemmas.Bool.{le-ltb}
use Rattle.std.proofs.lemmas.Bool.Decides.{nat_tests}
use Rattle.std.proofs.lemmas.List.{drop_more, drop_all, append-nil}
use Rattle.std.proofs.lemmas.Str.{IsUtf8-from_ascii}
use Rattle.std.proofs.lemmas.Str.Ascii.{IsAscii-nil, IsAscii-cons}
use Rattle.standards.specs.Lists.{from, table, at, row_at, all_below}
use Rattle.algebra.proofs.Tests.{from_both}
use Rattle.algebra.proofs.Tables.{at_below, below_append, table_more}
use Rattle.hex_digits.specs.Hex.{digit_of, hex_of, value_of, is_space, values_of}

-- ---- bytes to digits
pub hex_from : (bytes : List ℕ) (i : ℕ) → i < length bytes → hex_of (drop i bytes) ≡ digit_of (at bytes i / 16) ∷ digit_of (at bytes i % 16) ∷ hex_of (drop (i + 1) bytes)
unfolding hex_of
hex_from bytes i h = ap hex_of (drop_more bytes i 0 h)

pub hex_end : (bytes : List ℕ) (i : ℕ) → length bytes ≤ i → hex_of (drop i bytes) ≡ []
unfolding hex_of
hex_end bytes i h = ap hex_of (drop_all i bytes h)

pub ruleset hex_steps = (hex_from, hex_end, append_assoc, append-nil)

digit_ascii : (n : ℕ) → n < 16 → digit_of n < 128
digit_ascii n h = grind (arith, nat_tests)

hex_ascii : (bytes : List ℕ) → ((i : ℕ) → Fits w8 (at bytes i)) → IsAscii (hex_of bytes)
unfolding hex_of
hex_ascii [] fit = IsAscii-nil
hex_ascii (b ∷ bs) fit =
    let small : b < 256 = omega (arith, fit 0) in
    IsAscii-cons _ (digit_of (b % 16) ∷ hex_of bs) (digit_ascii (b / 16) (omega arith)) (IsAscii-cons _ (hex_of bs) (digit_ascii (b % 16) (omega arith)) (hex_ascii bs (λ i. fit (suc i))))

pub hex_utf8 : (bytes : List ℕ) → ((i : ℕ) → Fits w8 (at bytes i)) → IsUtf8 (hex_of bytes)
hex_utf8 bytes fit = IsUtf8-from_ascii (hex_of bytes) (hex_ascii bytes fit)

-- ---- digits to values
pub values_from : (text : List ℕ) (i : ℕ) → i < length text → values_of (drop i text) ≡ cond (is_space (at text i)) (values_of (drop (i + 1) text)) (value_of (at text i) ∷ values_of (drop (i + 1) text))
unfolding values_of
values_from text i h = ap values_of (drop_more text i 0 h)

pub values_end : (text : List ℕ) (i : ℕ) → length text ≤ i → values_of (drop i text) ≡ []
unfolding values_of
values_end text i h = ap values_of (drop_all i text h)

pub below_nil : (q : ℕ) → T (all_below q [])
unfolding all_below
below_nil q = tt

pub below_push : (q : ℕ) (xs : List ℕ) (x : ℕ) → T (all_below q xs) → x < q → T (all_below q (xs ++ x ∷ []))
unfolding all_below
below_push q xs x h l = below_append q xs (x ∷ []) h (from_both (ltb x q) true (lt→ltb x q l) tt)

and_false : (b : Bool) → (b && false) ≡ false
and_false true = refl
and_false false = refl

-- a number that is too large, with others before and after it
pub not_below : (q : ℕ) (xs ys : List ℕ) (x : ℕ) → q ≤ x → all_below q (xs ++ x ∷ ys) ≡ false
unfolding all_below
not_below q [] ys x h = ap (λ b. b && all_below q ys) (le-ltb x q h)
not_below q (y ∷ xs) ys x h = ap (λ b. ltb y q && b) (not_below q xs ys x h) ∙ and_false (ltb y q)

pub ruleset value_steps = (values_from, values_end, below_nil, below_push, not_below, append_assoc, append-nil)

-- ---- values to bytes
-- the two values of the pair at place i
pair_at : (xs : List ℕ) (k i : ℕ) → k * 2 ≤ length xs → i < k → (at (row_at (first_chunks 2 k xs) i) 0 ≡ at xs (2 * i)) × (at (row_at (first_chunks 2 k xs) i) 1 ≡ at xs (2 * i + 1))
pair_at xs zero i h g = absurd (omega arith)
pair_at [] (suc k) i h g = absurd (omega arith)
pair_at (a ∷ []) (suc k) i h g = absurd (omega arith)
pair_at (a ∷ b ∷ xs) (suc k) zero h g = (refl, refl)
pair_at (a ∷ b ∷ xs) (suc k) (suc i) h g =
    let (high, low) = pair_at xs k i (omega arith) (omega arith) in
    (high ∙ ap (at (a ∷ b ∷ xs)) {x = suc (suc (2 * i))} {y = 2 * suc i} (omega arith), low ∙ ap (at (a ∷ b ∷ xs)) {x = suc (suc (2 * i + 1))} {y = 2 * suc i + 1} (omega arith))

-- all pairs of the values: which they are, and that they are below 16
pub pair : (xs : List ℕ) (pairs : List (List ℕ)) (i : ℕ) → T (all_below 16 xs) → pairs ≡ first_chunks 2 (length xs / 2) xs → i < length xs / 2 →
    (at (row_at pairs i) 0 ≡ at xs (2 * i)) × (at (row_at pairs i) 1 ≡ at xs (2 * i + 1)) × (at xs (2 * i) < 16) × (at xs (2 * i + 1) < 16)
pair xs pairs i b e h =
    let (high, low) = pair_at xs (length xs / 2) i (omega arith) h in
    rw e (high, low, at_below 16 xs (2 * i) b (omega arith), at_below 16 xs (2 * i + 1) b (omega arith))

pub table_nil : (f : ℕ → ℕ) → table 0 f ≡ []
unfolding from
table_nil f = refl

pub ruleset pair_steps = (pair, table_nil, table_more)
