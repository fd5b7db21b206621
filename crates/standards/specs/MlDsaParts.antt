-- FIPS 204, the auxiliary functions: parameter sets, bit packing, hints, sampling, rounding, and the transform. Assumes nothing.
use Rattle.std.specs.Prelude.{Bool, cond, ◌&&◌, List, [], ◌∷◌, ◌++◌, ℕ, zero, suc, ◌+◌, ◌-◌, ◌*◌, ◌/◌, ◌%◌, ◌^◌, eqb, ltb, leb, length, set}
use Rattle.standards.specs.Lists.{table, tables, at, row_at, sum_to, joined}
use Rattle.standards.specs.Bytes.{pack, unpack, bit_rev}
use Rattle.standards.specs.Ring.{power, zero_p}
use Rattle.standards.specs.Hashes.{Hashes, shake256_bytes, draw}

-- ---- parameter sets; gamma1 is 2^gamma1_bits
pub record DsaSet : Type 0 where
  pub k : ℕ
  pub l : ℕ
  pub eta : ℕ
  pub tau : ℕ
  pub lambda : ℕ
  pub gamma1_bits : ℕ
  pub gamma2 : ℕ
  pub omega : ℕ

abbrev pub mldsa44 : DsaSet
mldsa44 = record { k = 4; l = 4; eta = 2; tau = 39; lambda = 128; gamma1_bits = 17; gamma2 = 95232; omega = 80 }

abbrev pub mldsa65 : DsaSet
mldsa65 = record { k = 6; l = 5; eta = 4; tau = 49; lambda = 192; gamma1_bits = 19; gamma2 = 261888; omega = 55 }

abbrev pub mldsa87 : DsaSet
mldsa87 = record { k = 8; l = 7; eta = 2; tau = 60; lambda = 256; gamma1_bits = 19; gamma2 = 261888; omega = 75 }

abbrev pub q : ℕ
q = 8380417

abbrev pub gamma1 : DsaSet → ℕ
gamma1 p = 2 ^ p.gamma1_bits

abbrev pub beta : DsaSet → ℕ
beta p = p.tau * p.eta

-- ---- bytes. BitPack: a number x modulo q from -a to b goes as b - x, in d bits
abbrev pub bit_pack : ℕ → ℕ → List ℕ → List ℕ
bit_pack d b f = pack d (table 256 (λ i. (b + (q - at f i)) % q))

abbrev pub bit_unpack : ℕ → ℕ → List ℕ → List ℕ
bit_unpack d b bs = table 256 (λ i. (b + (q - at (unpack d 256 bs) i)) % q)

-- bits of a number of s1 and s2 (from -eta to eta), of z (above -gamma1, up to gamma1), and of w1
abbrev pub eta_bits : DsaSet → ℕ
eta_bits p = cond (eqb p.eta 2) 3 4

abbrev pub z_bits : DsaSet → ℕ
z_bits p = p.gamma1_bits + 1

abbrev pub w1_bits : DsaSet → ℕ
w1_bits p = cond (eqb p.gamma2 95232) 6 4

-- w1Encode
abbrev pub w1_encode : DsaSet → List (List ℕ) → List ℕ
w1_encode p ws = joined (tables p.k (λ i. pack (w1_bits p) (row_at ws i)))

-- HintBitPack: the places of the ones of all rows, noughts up to omega bytes, and for each row how many places there are up to its end
unfoldable pub places : ℕ → List ℕ → List ℕ
places i [] = []
places i (b ∷ bs) = cond (eqb b 0) (places (i + 1) bs) (i ∷ places (i + 1) bs)

unfoldable pub all_places : List (List ℕ) → List ℕ
all_places [] = []
all_places (x ∷ xs) = places 0 x ++ all_places xs

unfoldable pub row_ends : ℕ → List (List ℕ) → List ℕ
row_ends n [] = []
row_ends n (x ∷ xs) = let m = n + length (places 0 x) in m ∷ row_ends m xs

abbrev pub hint_bit_pack : DsaSet → List (List ℕ) → List ℕ
hint_bit_pack p hs = (all_places hs ++ table (p.omega - length (all_places hs)) (λ i. 0)) ++ row_ends 0 hs

-- how many ones there are in the rows of a hint
abbrev pub hint_count : List (List ℕ) → ℕ
hint_count hs = length (all_places hs)

-- ---- sampling
-- SampleInBall: tau places with 1 or -1. From the byte at pos on, the first that is at most i; 1,024 bytes are looked at, then the next is
-- taken as it is. The standard sets no bound.
unfoldable pub first_at_most : ℕ → ℕ → ℕ → (ℕ → ℕ) → ℕ
first_at_most zero pos i s = pos
first_at_most (suc fuel) pos i s = cond (leb (s pos) i) pos (first_at_most fuel (pos + 1) i s)

-- step t of tau, at place i = 256 - tau + t; the first eight bytes of the stream are the signs
unfoldable pub ball_steps : ℕ → ℕ → ℕ → (ℕ → ℕ) → List ℕ → List ℕ
ball_steps zero t pos s c = c
ball_steps (suc n) t pos s c =
    let i = 256 - suc n in
    let p = first_at_most 1024 pos i s in
    let j = s p in
    let sign = (s (t / 8) / 2 ^ (t % 8)) % 2 in
    ball_steps n (t + 1) (p + 1) s (set (set c i (at c j)) j (cond (eqb sign 1) (q - 1) 1))

abbrev pub sample_in_ball : Hashes → DsaSet → List ℕ → List ℕ
sample_in_ball h p c = ball_steps p.tau 0 8 (h.shake256 c) zero_p

-- CoeffFromThreeBytes: 23 bits of group n
abbrev pub candidate23 : (ℕ → ℕ) → ℕ → ℕ
candidate23 s n = s (3 * n) + 256 * s (3 * n + 1) + 65536 * (s (3 * n + 2) % 128)

-- RejNTTPoly: the first 256 candidates below q, of at most 2,048 groups of three bytes
abbrev pub rej_ntt_poly : Hashes → List ℕ → List ℕ
rej_ntt_poly h seed = let s = h.shake128 seed in draw (λ n. ltb (candidate23 s n) q) (candidate23 s) 2048 0 256

-- CoeffFromHalfByte: half a byte is a number from -eta to eta, or is rejected; the low half of a byte comes first
abbrev pub half_byte : (ℕ → ℕ) → ℕ → ℕ
half_byte s n = cond (eqb (n % 2) 0) (s (n / 2) % 16) (s (n / 2) / 16)

abbrev pub half_byte_fits : ℕ → ℕ → Bool
half_byte_fits eta z = cond (eqb eta 2) (ltb z 15) (ltb z 9)

abbrev pub coeff_from_half_byte : ℕ → ℕ → ℕ
coeff_from_half_byte eta z = cond (eqb eta 2) ((2 + (q - z % 5)) % q) ((4 + (q - z)) % q)

-- RejBoundedPoly: the first 256, of at most 2,048 half bytes
abbrev pub rej_bounded_poly : Hashes → ℕ → List ℕ → List ℕ
rej_bounded_poly h eta seed =
    let s = h.shake256 seed in
    draw (λ n. half_byte_fits eta (half_byte s n)) (λ n. coeff_from_half_byte eta (half_byte s n)) 2048 0 256

-- ExpandA: entry r, s of the matrix, in the transformed domain
abbrev pub expand_a : Hashes → List ℕ → ℕ → ℕ → List ℕ
expand_a h rho r s = rej_ntt_poly h (rho ++ (s ∷ r ∷ []))

-- ExpandS: polynomial r of s1 and s2, counted through
abbrev pub expand_s : Hashes → ℕ → List ℕ → ℕ → List ℕ
expand_s h eta rho r = rej_bounded_poly h eta (rho ++ (r % 256 ∷ r / 256 ∷ []))

-- ExpandMask: polynomial n, counted through all attempts
abbrev pub expand_mask : Hashes → DsaSet → List ℕ → ℕ → List ℕ
expand_mask h p rho n = bit_unpack (z_bits p) (gamma1 p) (shake256_bytes h (rho ++ (n % 256 ∷ n / 256 ∷ [])) (32 * z_bits p))

-- ---- rounding. Power2Round: r is r1 2^13 + r0, r0 from -4095 to 4096
abbrev pub power2_round1 : ℕ → ℕ
power2_round1 r = cond (leb (r % 8192) 4096) (r / 8192) (r / 8192 + 1)

-- r0 modulo q
abbrev pub power2_round0 : ℕ → ℕ
power2_round0 r = (r + (q - (8192 * power2_round1 r) % q)) % q

-- Decompose with g for gamma2: r is r1 2 g + r0, r0 from -g + 1 to g; but where r - r0 is q - 1, r1 is 0 and r0 one less
abbrev pub high_bits : ℕ → ℕ → ℕ
high_bits g r =
    let m = 2 * g in
    let t = r % m in
    let d = cond (leb (2 * t) m) (r - t) (r + (m - t)) in
    cond (eqb d (q - 1)) 0 (d / m)

-- r0 modulo q
abbrev pub low_bits : ℕ → ℕ → ℕ
low_bits g r =
    let m = 2 * g in
    let t = r % m in
    let r0 = cond (leb (2 * t) m) t ((q + t) - m) in
    cond (eqb ((r + (q - r0)) % q) (q - 1)) ((r0 + (q - 1)) % q) r0

-- MakeHint: whether adding z changes the high bits of r
abbrev pub make_hint : ℕ → ℕ → ℕ → ℕ
make_hint g z r = cond (eqb (high_bits g r) (high_bits g ((r + z) % q))) 0 1

-- UseHint: with a hint, the next high bits up or down, by the sign of the low bits
abbrev pub low_is_positive : ℕ → ℕ → Bool
low_is_positive g r = ltb 0 (low_bits g r) && leb (2 * low_bits g r) q

abbrev pub use_hint : ℕ → ℕ → ℕ → ℕ
use_hint g b r =
    let m = (q - 1) / (2 * g) in
    cond (eqb b 0) (high_bits g r) (cond (low_is_positive g r) ((high_bits g r + 1) % m) ((high_bits g r + (m - 1)) % m))

-- number by number
abbrev pub power2_round1_p : List ℕ → List ℕ
power2_round1_p f = table 256 (λ i. power2_round1 (at f i))

abbrev pub power2_round0_p : List ℕ → List ℕ
power2_round0_p f = table 256 (λ i. power2_round0 (at f i))

abbrev pub high_bits_p : ℕ → List ℕ → List ℕ
high_bits_p g f = table 256 (λ i. high_bits g (at f i))

abbrev pub low_bits_p : ℕ → List ℕ → List ℕ
low_bits_p g f = table 256 (λ i. low_bits g (at f i))

abbrev pub make_hint_p : ℕ → List ℕ → List ℕ → List ℕ
make_hint_p g z r = table 256 (λ i. make_hint g (at z i) (at r i))

abbrev pub use_hint_p : ℕ → List ℕ → List ℕ → List ℕ
use_hint_p g b f = table 256 (λ i. use_hint g (at b i) (at f i))

-- ---- the transform: the values at the odd powers of 1753, in the standard's order
abbrev pub zeta : ℕ → ℕ
zeta i = power q 1753 (2 * bit_rev 8 i + 1)

-- NTT
abbrev pub ntt_at : List ℕ → ℕ → ℕ
ntt_at f n = let z = zeta n in sum_to 256 (λ j. at f j * power q z j) % q

abbrev pub ntt : List ℕ → List ℕ
ntt f = table 256 (ntt_at f)

-- The inverse of NTT. 8347681 is the inverse of 256; the power 511 of zeta i is its inverse.
abbrev pub ntt_inv_at : List ℕ → ℕ → ℕ
ntt_inv_at f n = (8347681 * (sum_to 256 (λ i. at f i * power q (power q (zeta i) 511) n) % q)) % q

abbrev pub ntt_inv : List ℕ → List ℕ
ntt_inv f = table 256 (ntt_inv_at f)

-- MultiplyNTT
abbrev pub multiply_ntt : List ℕ → List ℕ → List ℕ
multiply_ntt f g = table 256 (λ i. (at f i * at g i) % q)
