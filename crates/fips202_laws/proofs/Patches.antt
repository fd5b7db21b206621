-- A block that has some bytes more than another, which has noughts there: what differs goes into the lanes instead.
use Rattle.std.proofs.Common.{◌≡◌, ℕ, zero, suc, ◌+◌, ◌-◌, ◌*◌, ◌/◌, ◌%◌, ◌^◌, ◌<◌, ◌≤◌, cond, eqb, ltb, List, [], ◌∷◌, ◌++◌, length, take, drop, replicate, sym, refl, ap, ◌∙◌, ap₂, inl, inr, add-zero, mul-add, pow-add, arith}
use Rattle.std.specs.Int.Bits.{bit_xor, xor_assoc, xor_comm, xor_shifted, xor_zero_r}
use Rattle.std.proofs.lemmas.List.{length-take, length-drop, length-replicate, get_or-set_same, get_or-set_other, get_or-take, get_or-drop, get_or_past, get_or_append_left, get_or-append_right, get_or-replicate, ext_get_or}
use Rattle.std.proofs.lemmas.Bool.{cases_lt, cases_eq}
use Rattle.std.proofs.lemmas.Bool.Decides.{nat_tests}
use Rattle.std.proofs.Math.Nat.{mul-lt-mul_of_pos_right}
use Rattle.std.proofs.lemmas.Nat.{div-add-mod', pow_pos}
use Rattle.standards.specs.Lists.{table, at}
use Rattle.standards.specs.Fips202.{lane_of, padded, absorb_block, absorb_blocks, keccak_f}
use Rattle.algebra.proofs.Congruence.{pow_mul}
use Rattle.algebra.proofs.Tables.{length-table, at_table, table_same}
use Rattle.fips202_laws.specs.Sponges.{mixed_byte, mixed_up_to, mixed_lanes}

-- xs has the n bytes of bs from p on, where ys has noughts, as it has before them; behind them the two agree
pub record Patch (p n : ℕ) (bs xs ys : List ℕ) : Type 0 where
  pub before : (k : ℕ) → k < p → at xs k ≡ at ys k
  pub inside : (k : ℕ) → p ≤ k → k < p + n → at xs k ≡ at bs (k - p)
  pub blank : (k : ℕ) → k < p + n → at ys k ≡ 0
  pub beyond : (k : ℕ) → p + n ≤ k → at xs k ≡ at ys k

-- ---- numbers by place
at_append : (xs ys : List ℕ) (k : ℕ) → at (xs ++ ys) k ≡ cond (ltb k (length xs)) (at xs k) (at ys (k - length xs))
at_append xs ys k = elim (cases_lt k (length xs)) [
  | inl l ↦ let is = get_or_append_left xs ys 0 k l in grind (arith, nat_tests)
  | inr g ↦ let is = get_or-append_right xs ys (length xs) k 0 refl g in grind (arith, nat_tests)
]

at_take : (n : ℕ) (xs : List ℕ) (k : ℕ) → at (take n xs) k ≡ cond (ltb k n) (at xs k) 0
at_take n xs k = elim (cases_lt k n) [
  | inl l ↦ let is = get_or-take n xs k 0 l in grind (arith, nat_tests)
  | inr g ↦ let none = get_or_past (take n xs) k 0 (omega (arith, length-take n xs)) in grind (arith, nat_tests)
]

pub noughts_at : (n k : ℕ) → at (replicate n 0) k ≡ 0
noughts_at n k = elim (cases_lt k n) [ inl l ↦ get_or-replicate n k 0 0 l | inr g ↦ get_or_past (replicate n 0) k 0 (omega (arith, length-replicate {A = ℕ} n 0)) ]

at_front : (p : ℕ) (xs : List ℕ) (k : ℕ) → at (replicate p 0 ++ xs) k ≡ cond (ltb k p) 0 (at xs (k - p))
at_front p xs k = let size = length-replicate {A = ℕ} p 0 in rw (at_append (replicate p 0) xs k, noughts_at p k, size)

pub table_at : (n : ℕ) (f : ℕ → ℕ) (k : ℕ) → at (table n f) k ≡ cond (ltb k n) (f k) 0
table_at n f k = elim (cases_lt k n) [
  | inl l ↦ let is = at_table n f k l in grind (arith, nat_tests)
  | inr g ↦ let none = get_or_past (table n f) k 0 (rw (length-table n f) g) in grind (arith, nat_tests)
]

pub patch_front : (p : ℕ) (bs m : List ℕ) → Patch p (length bs) bs (replicate p 0 ++ (bs ++ m)) (replicate (p + length bs) 0 ++ m)
patch_front p bs m = record {
  before = λ k h. grind (arith, nat_tests, at_front p (bs ++ m) k, at_front (p + length bs) m k);
  inside = λ k l h. grind (arith, nat_tests, at_front p (bs ++ m) k, at_append bs m (k - p));
  blank = λ k h. grind (arith, nat_tests, at_front (p + length bs) m k);
  beyond = λ k h. grind (arith, nat_tests, at_front p (bs ++ m) k, at_append bs m (k - p), at_front (p + length bs) m k);
}

module _ (p n : ℕ) (bs xs ys : List ℕ) (patch : Patch p n bs xs ys) where
  pub patch_taken : (r : ℕ) → p + n ≤ r → Patch p n bs (take r xs) (take r ys)
  patch_taken r fits = record {
    before = λ k h. grind (arith, nat_tests, at_take r xs k, at_take r ys k, patch.before k h);
    inside = λ k l h. grind (arith, nat_tests, at_take r xs k, patch.inside k l h);
    blank = λ k h. grind (arith, nat_tests, at_take r ys k, patch.blank k h);
    beyond = λ k h. grind (arith, nat_tests, at_take r xs k, at_take r ys k, patch.beyond k h);
  }

  pub patch_padded : (rate suffix : ℕ) → length xs ≡ length ys → p + n ≤ length xs → p + n ≤ rate → Patch p n bs (padded rate suffix xs) (padded rate suffix ys)
  patch_padded rate suffix same room fits =
      let last : ℕ → ℕ = λ k. cond (eqb k (rate - 1)) 128 0 in
      let byte : List ℕ → ℕ → ℕ = λ zs k. cond (ltb k (length zs)) (at zs k) (cond (eqb k (length zs)) (suffix + last k) (last k)) in
      record {
        before = λ k h. grind (arith, nat_tests, table_at rate (byte xs) k, table_at rate (byte ys) k, patch.before k h);
        inside = λ k l h. grind (arith, nat_tests, table_at rate (byte xs) k, patch.inside k l h);
        blank = λ k h. grind (arith, nat_tests, table_at rate (byte ys) k, patch.blank k h);
        beyond = λ k h. grind (arith, nat_tests, table_at rate (byte xs) k, table_at rate (byte ys) k, patch.beyond k h);
      }

  -- what is behind the first block is the same
  patch_behind : (rate : ℕ) → p + n ≤ rate → length xs ≡ length ys → drop rate xs ≡ drop rate ys
  patch_behind rate fits same =
      ext_get_or 0 (drop rate xs) (drop rate ys) (simp length-drop (omega arith))
      (λ k h. get_or-drop rate xs k 0 ∙ (patch.beyond (rate + k) (omega arith) ∙ sym (get_or-drop rate ys k 0)))

  pub patch_blocks : (q rate suffix : ℕ) (a b : List ℕ) → length xs ≡ length ys → p + n ≤ length xs → p + n ≤ rate → ((us vs : List ℕ) → Patch p n bs us vs → absorb_block rate us a ≡ absorb_block rate vs b) → absorb_blocks q rate suffix xs a ≡ absorb_blocks q rate suffix ys b
  unfolding absorb_blocks
  patch_blocks zero rate suffix a b same room fits merge = merge (padded rate suffix xs) (padded rate suffix ys) (patch_padded rate suffix same room fits)
  patch_blocks (suc q) rate suffix a b same room fits merge =
      ap₂ (absorb_blocks q rate suffix) (patch_behind rate fits same) (merge (take rate xs) (take rate ys) (patch_taken rate fits))

-- ---- lanes as eight bytes
abbrev eight : (ℕ → ℕ) → ℕ
eight v = v 0 + 256 * (v 1 + 256 * (v 2 + 256 * (v 3 + 256 * (v 4 + 256 * (v 5 + 256 * (v 6 + 256 * v 7))))))

lane_is : (us : List ℕ) (i : ℕ) → lane_of us i ≡ eight (λ t. at us (8 * i + t))
lane_is us i = rw (add-zero (8 * i))

eight_more : (u v c : ℕ → ℕ) → ((t : ℕ) → t < 8 → u t ≡ v t + c t) → eight u ≡ eight v + eight c
eight_more u v c h = omega arith

same_lane : (us vs : List ℕ) (i j : ℕ) → ((t : ℕ) → t < 8 → at us (8 * i + t) ≡ at vs (8 * j + t)) → lane_of us i ≡ lane_of vs j
same_lane us vs i j h = rw (lane_is us i, lane_is vs j) (omega arith)

-- a lane of noughts
pub no_lane : (us : List ℕ) (i : ℕ) → ((k : ℕ) → k < 8 * i + 8 → at us k ≡ 0) → lane_of us i ≡ 0
no_lane us i h = omega arith

-- lane i is the same, whether us goes into a or vs into b
abbrev Merged : ℕ → List ℕ → List ℕ → List ℕ → List ℕ → ℕ → Type 0
Merged rate us a vs b i =
    cond (ltb (8 * i) rate) (bit_xor (at a i) (lane_of us i)) (at a i) ≡ cond (ltb (8 * i) rate) (bit_xor (at b i) (lane_of vs i)) (at b i)

block_merged : (rate : ℕ) (us a vs b : List ℕ) → ((i : ℕ) → i < 25 → Merged rate us a vs b i) → absorb_block rate us a ≡ absorb_block rate vs b
block_merged rate us a vs b h = ap keccak_f (table_same 25 _ _ h)

-- ---- whole lanes
module _ (place rate : ℕ) (a bs : List ℕ) (aligned : place % 8 ≡ 0) (whole : length bs % 8 ≡ 0) (fits : place + length bs ≤ rate) (us vs : List ℕ) (patch : Patch place (length bs) bs us vs) where
  lane_merged : (i : ℕ) → i < 25 → Merged rate us a vs (mixed_lanes a (place / 8) bs) i
  lane_merged i h =
      let first : ℕ = place / 8 in
      let is = at_table 25 (mixed_up_to first (first + length bs / 8) bs a) i h in
      elim (cases_lt i first) [
        | inl l ↦
            let same = same_lane us vs i i (λ t s. patch.before (8 * i + t) (omega arith)) in
            grind (arith, nat_tests)
        | inr g ↦ elim (cases_lt i (first + length bs / 8)) [
          | inl l ↦
              let own : lane_of us i ≡ lane_of bs (i - first) =
              same_lane us bs i (i - first) (λ t s. patch.inside (8 * i + t) (omega arith) (omega arith) ∙ ap (at bs) {x = 8 * i + t - place} {y = 8 * (i - first) + t} (omega arith)) in
              let none = no_lane vs i (λ k s. patch.blank k (omega arith)) in
              grind (arith, nat_tests, xor_zero_r)
          | inr l ↦
              let same = same_lane us vs i i (λ t s. patch.beyond (8 * i + t) (omega arith)) in
              grind (arith, nat_tests)
        ]
      ]

  pub lanes_merged : absorb_block rate us a ≡ absorb_block rate vs (mixed_lanes a (place / 8) bs)
  lanes_merged = block_merged rate us a vs _ lane_merged

-- ---- one byte
-- e goes into the lane first, and what lies above it later
split_xor : (a x y e k : ℕ) → y % 2 ^ k ≡ 0 → e < 2 ^ k → x ≡ y + e → bit_xor a x ≡ bit_xor (bit_xor a e) y
split_xor a x y e k low small sum =
    let m : ℕ = y / 2 ^ k in
    let high : m * 2 ^ k ≡ y = sym (add-zero (m * 2 ^ k)) ∙ (ap (λ r. m * 2 ^ k + r) (sym low) ∙ div-add-mod' y (2 ^ k)) in
    let both : bit_xor e y ≡ x = xor_comm e y ∙ (ap (λ z. bit_xor z e) (sym high) ∙ (xor_shifted m k e small ∙ (ap (λ z. z + e) high ∙ sym sum))) in
    ap (bit_xor a) (sym both) ∙ sym (xor_assoc a e y)

one_byte : (j b : ℕ) → j < 8 → eight (λ t. cond (eqb t j) b 0) ≡ b * 256 ^ j
one_byte zero b h = omega arith
one_byte (suc zero) b h = omega arith
one_byte (suc (suc zero)) b h = omega arith
one_byte (suc (suc (suc zero))) b h = omega arith
one_byte (suc (suc (suc (suc zero)))) b h = omega arith
one_byte (suc (suc (suc (suc (suc zero))))) b h = omega arith
one_byte (suc (suc (suc (suc (suc (suc zero)))))) b h = omega arith
one_byte (suc (suc (suc (suc (suc (suc (suc zero))))))) b h = omega arith
one_byte (suc (suc (suc (suc (suc (suc (suc (suc j)))))))) b h = absurd (omega arith)

low_bytes : (j : ℕ) (v : ℕ → ℕ) → j < 8 → ((t : ℕ) → t ≤ j → v t ≡ 0) → eight v % 2 ^ (8 * (j + 1)) ≡ 0
low_bytes zero v h none = omega arith
low_bytes (suc zero) v h none = omega arith
low_bytes (suc (suc zero)) v h none = omega arith
low_bytes (suc (suc (suc zero))) v h none = omega arith
low_bytes (suc (suc (suc (suc zero)))) v h none = omega arith
low_bytes (suc (suc (suc (suc (suc zero))))) v h none = omega arith
low_bytes (suc (suc (suc (suc (suc (suc zero)))))) v h none = omega arith
low_bytes (suc (suc (suc (suc (suc (suc (suc zero))))))) v h none = omega arith
low_bytes (suc (suc (suc (suc (suc (suc (suc (suc j)))))))) v h none = absurd (omega arith)

-- a byte, moved up by j bytes
moved_below : (b j : ℕ) → b < 256 → b * 256 ^ j < 2 ^ (8 * (j + 1))
moved_below b j small =
    let fits = mul-lt-mul_of_pos_right small (pow_pos (8 * j)) in
    rw (← pow_mul 2 8 j, mul-add 8 j 1, pow-add 2 (8 * j) 8) (omega (arith, fits))

-- byte j of lane i
module _ (p i j a b : ℕ) (us vs : List ℕ) (own : p ≡ 8 * i + j) (low : j < 8) (small : b < 256) (patch : Patch p 1 (b ∷ []) us vs) where
  more : (t : ℕ) → at us (8 * i + t) ≡ at vs (8 * i + t) + cond (eqb t j) b 0
  more t = elim (cases_lt t j) [
    | inl l ↦ let same = patch.before (8 * i + t) (omega arith) in grind (arith, nat_tests)
    | inr g ↦ elim (cases_eq t j) [
      | inl e ↦
          let put : at us (8 * i + t) ≡ b = patch.inside (8 * i + t) (omega arith) (omega arith) ∙ ap (at (b ∷ [])) {x = 8 * i + t - p} {y = 0} (omega arith) in
          let none = patch.blank (8 * i + t) (omega arith) in
          grind (arith, nat_tests)
      | inr ne ↦ let same = patch.beyond (8 * i + t) (omega arith) in grind (arith, nat_tests)
    ]
  ]

  byte_lane : bit_xor a (lane_of us i) ≡ bit_xor (bit_xor a (b * 256 ^ j)) (lane_of vs i)
  byte_lane =
      split_xor a (lane_of us i) (lane_of vs i) (b * 256 ^ j) (8 * (j + 1))
      (rw (lane_is vs i) (low_bytes j (λ t. at vs (8 * i + t)) low (λ t h. patch.blank (8 * i + t) (omega arith))))
      (moved_below b j small)
      (rw (lane_is us i, lane_is vs i, ← one_byte j b low) (eight_more (λ t. at us (8 * i + t)) (λ t. at vs (8 * i + t)) (λ t. cond (eqb t j) b 0) (λ t h. more t)))

module _ (p rate b : ℕ) (a us vs : List ℕ) (long : length a ≡ 25) (low : p < rate) (high : rate ≤ 200) (small : b < 256) (patch : Patch p 1 (b ∷ []) us vs) where
  merged : (i : ℕ) → i < 25 → Merged rate us a vs (mixed_byte a p b) i
  merged i h = elim (cases_eq i (p / 8)) [
    | inl e ↦
        let own = byte_lane p i (p % 8) (at a i) b us vs (omega arith) (omega arith) small patch in
        let put = get_or-set_same a i (bit_xor (at a i) (b * 256 ^ (p % 8))) 0 (omega arith) in
        grind (arith, nat_tests)
    | inr ne ↦
        let kept = get_or-set_other a (p / 8) i (bit_xor (at a (p / 8)) (b * 256 ^ (p % 8))) 0 ne in
        let same : lane_of us i ≡ lane_of vs i = same_lane us vs i i (λ t s. elim (cases_lt i (p / 8)) [
          | inl l ↦ patch.before (8 * i + t) (omega arith)
          | inr g ↦ patch.beyond (8 * i + t) (omega arith)
        ]) in
        grind (arith, nat_tests)
  ]

  pub byte_merged : absorb_block rate us a ≡ absorb_block rate vs (mixed_byte a p b)
  byte_merged = block_merged rate us a vs _ merged
