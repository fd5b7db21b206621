-- Packing cuts the one large number that the numbers of d bits are into bytes, and unpacking cuts the one that the bytes are into numbers of
-- d bits; so each undoes the other. For n numbers and m bytes, where d * n is 8 * m.
use Rattle.std.proofs.Common.{◌≡◌, ℕ, zero, suc, ◌+◌, ◌-◌, ◌*◌, ◌/◌, ◌%◌, ◌^◌, ◌<◌, ◌≤◌, T, List, length, take, drop, sym, ap, ◌∙◌, subst, mod-eq_of_lt, mul_comm, mul-le-mul_left, arith}
use Rattle.std.proofs.lemmas.Nat.{shr-shr}
use Rattle.standards.specs.Lists.{table, at, all_below, sum_to}
use Rattle.standards.specs.Bytes.{bit, pack, unpack}
use Rattle.standards.specs.Promises.{PackingGoesBothWays}
use Rattle.algebra.proofs.Tables.{length-table, at_table, is_table, table_same, at_below, below_table}
use Rattle.algebra.proofs.Bits.{sum_bits}
use Rattle.algebra.proofs.Sums.{sum_same}
use Rattle.algebra.proofs.Windows.{window, whole, window_below, window_window, bit_of_low, window_all, digit, whole_below, whole_windows, whole_part, bit_whole}
use Rattle.algebra.proofs.Parts.{part_table}

-- a sum of the bits of v from place a on
bits_from : (v a n : ℕ) (f : ℕ → ℕ) → ((t : ℕ) → f t ≡ (v / 2 ^ (a + t)) % 2) → sum_to n (λ t. f t * 2 ^ t) ≡ window v a n
bits_from v a n f h =
    sum_same n (λ t. f t * 2 ^ t) (λ t. ((v / 2 ^ a / 2 ^ t) % 2) * 2 ^ t) (λ t _. ap (λ x. x * 2 ^ t) (h t ∙ ap (λ x. x % 2) (sym (shr-shr v a t)))) ∙ sum_bits (v / 2 ^ a) n

-- bytes as windows of the numbers' whole
abbrev pub packed : ℕ → List ℕ → ℕ → List ℕ
packed d xs m = table m (λ k. window (whole d xs) (8 * k) 8)

pub pack_is : (d : ℕ) (xs : List ℕ) → 0 < d → pack d xs ≡ packed d xs ((d * length xs) / 8)
pack_is d xs p = table_same ((d * length xs) / 8) _ _ (λ m _. bits_from (whole d xs) (8 * m) 8 _ (λ t. sym (bit_whole d xs (8 * m + t) p)))

-- numbers as windows of the bytes' whole
abbrev pub unpacked : ℕ → ℕ → List ℕ → List ℕ
unpacked d n bs = table n (λ i. window (whole 8 bs) (d * i) d)

pub unpack_is : (d n : ℕ) (bs : List ℕ) → unpack d n bs ≡ unpacked d n bs
unpack_is d n bs =
    table_same n _ _ (λ i _. bits_from (whole 8 bs) (d * i) d _ (λ t. ap (bit bs) (ap (λ x. x + t) (mul_comm i d)) ∙ sym (bit_whole 8 bs (d * i + t) (omega arith))))

-- ---- eight numbers of d bits are d bytes, wherever they stand
-- the g-th eight numbers packed alone are the g-th d bytes of all
pub pack_eight : (d n g : ℕ) (xs : List ℕ) → 0 < d → length xs ≡ 8 * n → g < n → pack d (table 8 (λ i. at xs (8 * g + i))) ≡ take d (drop (d * g) (pack d xs))
pack_eight d n g xs p l h =
    let v = whole d xs in
    let eight = table 8 (λ i. at xs (8 * g + i)) in
    let m : d * length xs / 8 ≡ d * n = ap (λ x. d * x / 8) l ∙ omega arith in
    let room : d * g + d ≤ length (packed d xs (d * n)) = omega (arith, length-table (d * n) (λ k. window v (8 * k) 8), mul-le-mul_left {m = g + 1} {n = n} d (omega arith)) in
    let each : (t : ℕ) → t < d → window (whole d eight) (8 * t) 8 ≡ at (packed d xs (d * n)) (d * g + t) = λ t lt.
    ap (λ x. window x (8 * t) 8) (whole_part d xs (8 * g) 8 ∙ ap (window v (d * (8 * g))) {x = d * 8} {y = 8 * t + (8 + 8 * (d - t - 1))} (omega arith)) ∙
    (window_window v (d * (8 * g)) (8 * t) 8 (8 * (d - t - 1)) ∙
    (ap (λ x. window v x 8) {x = d * (8 * g) + 8 * t} {y = 8 * (d * g + t)} (omega arith) ∙
    sym (at_table (d * n) (λ k. window v (8 * k) 8) (d * g + t) (omega (arith, mul-le-mul_left {m = g + 1} {n = n} d (omega arith)))))) in
    pack_is d eight p ∙ (ap (packed d eight) (ap (λ x. d * x / 8) (length-table 8 (λ i. at xs (8 * g + i))) ∙ omega arith) ∙
    (table_same d _ _ each ∙ (sym (part_table (packed d xs (d * n)) (d * g) d room) ∙ ap (λ x. take d (drop (d * g) x)) (sym (pack_is d xs p ∙ ap (packed d xs) m)))))

-- the g-th d bytes unpacked alone are the g-th eight numbers of all
pub unpack_eight : (d n g : ℕ) (bs : List ℕ) → length bs ≡ d * n → g < n → unpack d 8 (take d (drop (d * g) bs)) ≡ take 8 (drop (8 * g) (unpack d (8 * n) bs))
unpack_eight d n g bs l h =
    let v = whole 8 bs in
    let part = table d (λ t. at bs (d * g + t)) in
    let room : d * g + d ≤ length bs = omega (arith, mul-le-mul_left {m = g + 1} {n = n} d (omega arith)) in
    let each : (i : ℕ) → i < 8 → window (whole 8 part) (d * i) d ≡ at (unpacked d (8 * n) bs) (8 * g + i) = λ i lt.
    let split : 8 * d ≡ d * i + (d + d * (7 - i)) = omega (arith, ap (λ x. d * x) {x = i + (1 + (7 - i))} {y = 8} (omega arith)) in
    ap (λ x. window x (d * i) d) (whole_part 8 bs (d * g) d ∙ ap (window v (8 * (d * g))) split) ∙
    (window_window v (8 * (d * g)) (d * i) d (d * (7 - i)) ∙
    (ap (λ x. window v x d) {x = 8 * (d * g) + d * i} {y = d * (8 * g + i)} (omega arith) ∙
    sym (at_table (8 * n) (λ k. window v (d * k) d) (8 * g + i) (omega arith)))) in
    ap (unpack d 8) (part_table bs (d * g) d room) ∙ (unpack_is d 8 part ∙
    (table_same 8 _ _ each ∙ (sym (part_table (unpacked d (8 * n) bs) (8 * g) 8 (omega (arith, length-table (8 * n) (λ k. window v (d * k) d)))) ∙
    ap (λ x. take 8 (drop (8 * g) x)) (sym (unpack_is d (8 * n) bs)))))

-- ---- a number of one bit, and a bit of a number of d bits
pub unpack-bit : (n : ℕ) (bs : List ℕ) (i : ℕ) → i < n → at (unpack 1 n bs) i ≡ bit bs i
unfolding sum_to
unpack-bit n bs i h = at_table n _ i h ∙ omega (arith, ap (bit bs) {x = i * 1 + 0} {y = i} (omega arith))

pub bit_of_unpack : (d n : ℕ) (bs : List ℕ) (i j : ℕ) → i < n → j < d → (at (unpack d n bs) i / 2 ^ j) % 2 ≡ bit bs (i * d + j)
bit_of_unpack d n bs i j hi hj =
    let v = whole 8 bs in
    ap (λ x. (at x i / 2 ^ j) % 2) (unpack_is d n bs) ∙
    (ap (λ x. (x / 2 ^ j) % 2) (at_table n _ i hi) ∙
    (bit_of_low (v / 2 ^ (d * i)) d j hj ∙
    (ap (λ x. x % 2) (shr-shr v (d * i) j) ∙ (bit_whole 8 bs (d * i + j) (omega arith) ∙ ap (λ x. bit bs (x + j)) (mul_comm d i)))))

-- ---- lengths and bounds
pub length-pack : (d n m : ℕ) (f : List ℕ) → d * n ≡ 8 * m → length f ≡ n → length (pack d f) ≡ m
length-pack d n m f e l = length-table (d * length f / 8) _ ∙ (ap (λ x. d * x / 8) l ∙ omega arith)

pub below_pack : (d : ℕ) (f : List ℕ) → T (all_below 256 (pack d f))
below_pack zero f = below_table 256 (0 * length f / 8) _ (λ k h. absurd (omega arith))
below_pack (suc d) f =
    subst (λ x. T (all_below 256 x)) (sym (pack_is (suc d) f (omega arith))) (below_table 256 (suc d * length f / 8) _ (λ k _. window_below (whole (suc d) f) (8 * k) 8))

pub below_unpack : (d n : ℕ) (bs : List ℕ) → T (all_below (2 ^ d) (unpack d n bs))
below_unpack d n bs = subst (λ x. T (all_below (2 ^ d) x)) (sym (unpack_is d n bs)) (below_table (2 ^ d) n _ (λ i _. window_below (whole 8 bs) (d * i) d))

-- ---- both ways
-- a list of numbers of b bits, out of its whole
pub again : (b n : ℕ) (xs : List ℕ) → length xs ≡ n → T (all_below (2 ^ b) xs) → table n (λ i. window (whole b xs) (b * i) b) ≡ xs
again b n xs l small = sym (is_table n _ xs l (λ i h. sym (digit b xs i ∙ mod-eq_of_lt (at_below (2 ^ b) xs i small (omega arith)))))

-- cut into c bits and joined again
rejoined : (b c n m : ℕ) (xs : List ℕ) → b * n ≡ c * m → length xs ≡ n → whole c (table m (λ k. window (whole b xs) (c * k) c)) ≡ whole b xs
rejoined b c n m xs e l = whole_windows c (whole b xs) m ∙ window_all (whole b xs) (c * m) (subst (λ x. whole b xs < 2 ^ x) (ap (λ x. b * x) l ∙ e) (whole_below b xs))

pub unpack-pack : (d n m : ℕ) (f : List ℕ) → d * n ≡ 8 * m → length f ≡ n → T (all_below (2 ^ d) f) → unpack d n (pack d f) ≡ f
unfolding sum_to
unpack-pack zero n m f e l small = sym (is_table n _ f l (λ i h. omega (arith, at_below 1 f i small (omega arith))))
unpack-pack (suc w) n m f e l small =
    let d = suc w in
    let bytes : pack d f ≡ packed d f m = pack_is d f (omega arith) ∙ ap (packed d f) (ap (λ x. d * x / 8) l ∙ omega arith) in
    ap (unpack d n) bytes ∙ (unpack_is d n (packed d f m) ∙ (ap (λ v. table n (λ i. window v (d * i) d)) (rejoined d 8 n m f e l) ∙ again d n f l small))

pub pack-unpack : (d n m : ℕ) (bs : List ℕ) → 0 < d → d * n ≡ 8 * m → length bs ≡ m → T (all_below 256 bs) → pack d (unpack d n bs) ≡ bs
pack-unpack d n m bs p e l small =
    let long : d * length (unpacked d n bs) / 8 ≡ m = ap (λ x. d * x / 8) (length-table n _) ∙ omega arith in
    ap (pack d) (unpack_is d n bs) ∙
    (pack_is d (unpacked d n bs) p ∙ (ap (packed d (unpacked d n bs)) long ∙ (ap (λ v. table m (λ k. window v (8 * k) 8)) (rejoined 8 d m n bs (sym e) l) ∙ again 8 m bs l small)))

pub packing : PackingGoesBothWays
packing d f p l small = (
  (length-pack d 256 (32 * d) f (omega arith) l, below_pack d f),
  unpack-pack d 256 (32 * d) f (omega arith) l small,
  (λ bs h. (below_unpack d 256 bs, pack-unpack d 256 (32 * d) bs p (omega arith) h.0 h.1)),
)
