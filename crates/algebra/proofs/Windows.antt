-- Bits of a large number, some from a place on; and a list of numbers of b bits each as one large number.
use Rattle.std.proofs.Common.{◌≡◌, ℕ, zero, suc, ◌+◌, ◌-◌, ◌*◌, ◌/◌, ◌%◌, ◌^◌, ◌<◌, ◌≤◌, List, [], ◌∷◌, length, sym, ap, ◌∙◌, mul-le-mul_right, mod-eq_of_lt, mul_comm, arith, bit_and}
use Rattle.std.proofs.Math.Nat.{mod-one, mod-mod, zero-div, pow-succ', mul-add-div_right}
use Rattle.std.proofs.lemmas.Nat.{pow_pos, pow-add, mod-pow-add, shr-shr, shr_split, shr_high, mod_low, mod_below, div-add-mod', and_mask, one_shl, shl_whole}
use Rattle.standards.specs.Lists.{from, table, at}

-- the n bits of v from place a on
abbrev pub window : ℕ → ℕ → ℕ → ℕ
window v a n = (v / 2 ^ a) % 2 ^ n

-- numbers of b bits each, the first one lowest, as one; what a number has above its b bits is left out
unfoldable pub whole : ℕ → List ℕ → ℕ
whole b [] = 0
whole b (x ∷ xs) = whole b xs * 2 ^ b + x % 2 ^ b

-- a bit below place b is that of the low b bits
pub bit_of_low : (x b r : ℕ) → r < b → ((x % 2 ^ b) / 2 ^ r) % 2 ≡ (x / 2 ^ r) % 2
bit_of_low x b r h =
    let up : x / 2 ^ b * 2 ^ b ≡ (2 * (x / 2 ^ b * 2 ^ (b - r - 1))) * 2 ^ r =
    ap (λ n. x / 2 ^ b * 2 ^ n) {x = b} {y = suc ((b - r - 1) + r)} (omega arith) ∙ rw (pow-succ' 2 ((b - r - 1) + r), pow-add 2 (b - r - 1) r) (omega arith) in
    let parts : x ≡ (2 * (x / 2 ^ b * 2 ^ (b - r - 1))) * 2 ^ r + x % 2 ^ b = omega (arith, up, shr_split x b) in
    sym (ap (λ n. (n / 2 ^ r) % 2) parts ∙ rw (mul-add-div_right (pow_pos r) (2 * (x / 2 ^ b * 2 ^ (b - r - 1))) (x % 2 ^ b)) (omega arith))

-- ---- windows: the next one joined on, the low part, the rest
pub window_join : (v a n m : ℕ) → window v a n + window v (a + n) m * 2 ^ n ≡ window v a (n + m)
window_join v a n m =
    let deep : v / 2 ^ a / 2 ^ n ≡ v / 2 ^ (a + n) = shr-shr v a n in
    let sum : window v a (n + m) ≡ (v / 2 ^ a) % 2 ^ (m + n) = ap (λ x. (v / 2 ^ a) % 2 ^ x) {x = n + m} {y = m + n} (omega arith) in
    omega (arith, sum, mod-pow-add (v / 2 ^ a) m n, ap (λ x. x % 2 ^ m * 2 ^ n) deep)

pub window_below : (v a n : ℕ) → window v a n < 2 ^ n
window_below v a n = mod_below (v / 2 ^ a) (2 ^ n) (pow_pos n)

pub window_low : (v a n m : ℕ) → window v a (n + m) % 2 ^ n ≡ window v a n
window_low v a n m =
    ap (λ x. x % 2 ^ n) {y = window v (a + n) m * 2 ^ n + window v a n} (omega (arith, window_join v a n m)) ∙ mod_low (window v (a + n) m) n (window v a n) (window_below v a n)

pub window_rest : (v a n m : ℕ) → window v a (n + m) / 2 ^ n ≡ window v (a + n) m
window_rest v a n m =
    ap (λ x. x / 2 ^ n) {y = window v (a + n) m * 2 ^ n + window v a n} (omega (arith, window_join v a n m)) ∙ shr_high (window v (a + n) m) n (window v a n) (window_below v a n)

-- a window of a window
pub window_window : (v a c m r : ℕ) → window (window v a (c + (m + r))) c m ≡ window v (a + c) m
window_window v a c m r = ap (λ x. x % 2 ^ m) (window_rest v a c (m + r)) ∙ window_low v (a + c) m r

-- nothing is left above the top
pub window_all : (v n : ℕ) → v < 2 ^ n → window v 0 n ≡ v
window_all v n h = let whole-v : v / 2 ^ 0 ≡ v = omega arith in ap (λ x. x % 2 ^ n) whole-v ∙ mod-eq_of_lt h

-- ---- numbers as one
-- number i of the list, out of the whole; past its end both are 0
pub digit : (b : ℕ) (xs : List ℕ) (i : ℕ) → window (whole b xs) (b * i) b ≡ at xs i % 2 ^ b
unfolding whole
digit b [] i = ap (λ x. x % 2 ^ b) (zero-div (2 ^ (b * i)))
digit b (x ∷ xs) zero =
    let none : 2 ^ (b * 0) ≡ 1 = ap (λ k. 2 ^ k) {x = b * 0} {y = 0} (omega arith) in
    let v = whole b xs * 2 ^ b + x % 2 ^ b in
    let all : v / 2 ^ (b * 0) ≡ v = ap (λ k. v / k) none ∙ omega arith in
    ap (λ k. k % 2 ^ b) all ∙ mod_low (whole b xs) b (x % 2 ^ b) (mod_below x (2 ^ b) (pow_pos b))
digit b (x ∷ xs) (suc i) =
    let v = whole b xs * 2 ^ b + x % 2 ^ b in
    ap (λ k. (v / 2 ^ k) % 2 ^ b) {x = b * suc i} {y = b + b * i} (omega arith) ∙
    (ap (λ k. k % 2 ^ b) (sym (shr-shr v b (b * i)) ∙ ap (λ k. k / 2 ^ (b * i)) (shr_high (whole b xs) b (x % 2 ^ b) (mod_below x (2 ^ b) (pow_pos b)))) ∙ digit b xs i)

pub whole_below : (b : ℕ) (xs : List ℕ) → whole b xs < 2 ^ (b * length xs)
unfolding whole
whole_below b [] = omega (arith, pow_pos (b * 0))
whole_below b (x ∷ xs) =
    let more : 2 ^ (b * suc (length xs)) ≡ 2 ^ (b * length xs) * 2 ^ b = ap (λ k. 2 ^ k) {x = b * suc (length xs)} {y = b * length xs + b} (omega arith) ∙ pow-add 2 (b * length xs) b in
    let step : whole b xs * 2 ^ b + 2 ^ b ≤ 2 ^ (b * length xs) * 2 ^ b = omega (arith, mul-le-mul_right {m = suc (whole b xs)} {n = 2 ^ (b * length xs)} (2 ^ b) (whole_below b xs)) in
    omega (arith, more, step, mod_below x (2 ^ b) (pow_pos b))

-- numbers that are windows one after the other are one window
whole_from : (b v i n : ℕ) (f : ℕ → ℕ) → ((k : ℕ) → f k % 2 ^ b ≡ window v (b * k) b) → whole b (from f i n) ≡ window v (b * i) (b * n)
unfolding whole from
whole_from b v i zero f h = sym (ap (λ k. (v / 2 ^ (b * i)) % 2 ^ k) {x = b * 0} {y = 0} (omega arith) ∙ mod-one (v / 2 ^ (b * i)))
whole_from b v i (suc n) f h =
    let rest : whole b (from f (i + 1) n) ≡ window v (b * i + b) (b * n) = whole_from b v (i + 1) n f h ∙ ap (λ k. window v k (b * n)) {x = b * (i + 1)} {y = b * i + b} (omega arith) in
    omega (arith, h i, ap (λ x. x * 2 ^ b) rest, window_join v (b * i) b (b * n)) ∙ ap (window v (b * i)) {x = b + b * n} {y = b * suc n} (omega arith)

pub whole_windows : (b v n : ℕ) → whole b (table n (λ k. window v (b * k) b)) ≡ window v 0 (b * n)
whole_windows b v n = whole_from b v 0 n (λ k. window v (b * k) b) (λ k. mod-mod (v / 2 ^ (b * k)) (2 ^ b)) ∙ ap (λ k. window v k (b * n)) {x = b * 0} {y = 0} (omega arith)

-- the n numbers from place k on, out of the whole
pub whole_part : (b : ℕ) (xs : List ℕ) (k n : ℕ) → whole b (table n (λ i. at xs (k + i))) ≡ window (whole b xs) (b * k) (b * n)
whole_part b xs k n =
    let v = whole b xs / 2 ^ (b * k) in
    let each : (i : ℕ) → at xs (k + i) % 2 ^ b ≡ window v (b * i) b = λ i.
    sym (digit b xs (k + i)) ∙ (ap (λ x. window (whole b xs) x b) {x = b * (k + i)} {y = b * k + b * i} (omega arith) ∙ ap (λ x. x % 2 ^ b) (sym (shr-shr (whole b xs) (b * k) (b * i)))) in
    let all : v / 2 ^ (b * 0) ≡ v = ap (λ x. v / 2 ^ x) {x = b * 0} {y = 0} (omega arith) ∙ omega arith in
    whole_from b v 0 n (λ i. at xs (k + i)) each ∙ ap (λ x. x % 2 ^ (b * n)) all

-- bit k of the whole is a bit of one number
pub bit_whole : (b : ℕ) (xs : List ℕ) (k : ℕ) → 0 < b → (whole b xs / 2 ^ k) % 2 ≡ (at xs (k / b) / 2 ^ (k % b)) % 2
bit_whole b xs k p =
    let i = k / b in
    let r = k % b in
    ap (λ x. (whole b xs / 2 ^ x) % 2) (sym (div-add-mod' k b) ∙ ap (λ x. x + r) (mul_comm i b)) ∙
    (ap (λ x. x % 2) (sym (shr-shr (whole b xs) (b * i) r)) ∙
    (sym (bit_of_low (whole b xs / 2 ^ (b * i)) b r (mod_below k b p)) ∙
    (ap (λ x. (x / 2 ^ r) % 2) (digit b xs i) ∙ bit_of_low (at xs i) b r (mod_below k b p))))

-- ---- in words of 64 bits: a mask of d ones, and a shift that loses nothing
pub masked : (x d : ℕ) → d < 64 → bit_and x ((1 * 2 ^ d) % 2 ^ 64 - 1) ≡ x % 2 ^ d
masked x d h = ap (λ y. bit_and x (y - 1)) (one_shl d 64 h) ∙ and_mask x d

pub placed : (x d h : ℕ) → d + h ≤ 64 → ((x % 2 ^ d) * 2 ^ h) % 2 ^ 64 ≡ (x % 2 ^ d) * 2 ^ h
placed x d h l = shl_whole (x % 2 ^ d) d h 64 (mod_below x (2 ^ d) (pow_pos d)) l
