-- A message is read back from what is left of it and noise below a quarter.
use Rattle.std.proofs.Common.{◌≡◌, ℕ, zero, suc, ◌+◌, ◌-◌, ◌*◌, ◌/◌, ◌%◌, ◌<◌, ◌≤◌, T, ◌⊎◌, List, length, sym, refl, ap, ◌∙◌, subst, inl, inr, arith}
use Rattle.std.proofs.lemmas.Bool.{cases_lt}
use Rattle.standards.specs.Lists.{at, all_below}
use Rattle.standards.specs.Bytes.{bit, pack, unpack}
use Rattle.standards.specs.Ring.{sub_p, magnitude, norm}
use Rattle.standards.specs.MlKemParts.{compress, decompress, compress_p}
use Rattle.standards.specs.MlKem.{mu}
use Rattle.algebra.proofs.Tables.{length-table, at_table, is_table}
use Rattle.algebra.proofs.Norms.{magnitude_cases, norm-at}
use Rattle.algebra.proofs.Packing.{pack-unpack, unpack-bit}

magnitude_within : (q y n : ℕ) → magnitude q y < n → (y < n) ⊎ (q < y + n)
magnitude_within q y n h = elim (magnitude_cases q y) [ inl c ↦ inl (omega arith) | inr c ↦ inr (omega arith) ]

-- ---- one number: a bit's place on the circle, moved by less than a quarter, is read as that bit
-- (omega wants the quotient and the remainder one after the other)
pub reads_low : (x : ℕ) → x < 833 → compress 1 x ≡ 0
reads_low x h = let e : (4 * x + 3329) / 6658 ≡ 0 = omega arith in ap (λ y. y % 2) e

pub reads_middle : (x : ℕ) → 833 ≤ x → x < 2497 → compress 1 x ≡ 1
reads_middle x h l = let e : (4 * x + 3329) / 6658 ≡ 1 = omega arith in ap (λ y. y % 2) e

pub reads_high : (x : ℕ) → 2497 ≤ x → x < 3329 → compress 1 x ≡ 0
reads_high x h l = let e : (4 * x + 3329) / 6658 ≡ 2 = omega arith in ap (λ y. y % 2) e

bit_zero : (x : ℕ) → x < 3329 → ((x + 3329) % 3329 < 832) ⊎ (3329 < (x + 3329) % 3329 + 832) → compress 1 x ≡ 0
bit_zero x l h = point (omega arith) h
  where
    point : (x + 3329) % 3329 ≡ x → ((x + 3329) % 3329 < 832) ⊎ (3329 < (x + 3329) % 3329 + 832) → compress 1 x ≡ 0
    point e (inl g) = reads_low x (omega arith)
    point e (inr g) = reads_high x (omega arith) l

bit_one : (x : ℕ) → x < 3329 → ((x + 1664) % 3329 < 832) ⊎ (3329 < (x + 1664) % 3329 + 832) → compress 1 x ≡ 1
bit_one x l h = point (cases_lt x 1665) h
  where
    point : (x < 1665) ⊎ (1665 ≤ x) → ((x + 1664) % 3329 < 832) ⊎ (3329 < (x + 1664) % 3329 + 832) → compress 1 x ≡ 1
    point (inl a) (inl g) = let e : (x + 1664) % 3329 ≡ x + 1664 = omega arith in absurd (omega arith)
    point (inl a) (inr g) = let e : (x + 1664) % 3329 ≡ x + 1664 = omega arith in reads_middle x (omega arith) (omega arith)
    point (inr a) (inl g) = let e : (x + 1664) % 3329 + 1665 ≡ x = omega arith in reads_middle x (omega arith) (omega arith)
    point (inr a) (inr g) = let e : (x + 1664) % 3329 + 1665 ≡ x = omega arith in absurd (omega arith)

pub read_back : (x b : ℕ) → x < 3329 → b < 2 → magnitude 3329 ((x + (3329 - decompress 1 b % 3329)) % 3329) < 832 → compress 1 x ≡ b
read_back x zero l s h = bit_zero x l (magnitude_within 3329 ((x + 3329) % 3329) 832 h)
read_back x (suc zero) l s h = bit_one x l (magnitude_within 3329 ((x + 1664) % 3329) 832 h)
read_back x (suc (suc b)) l s h = absurd (omega arith)

-- ---- the whole message
pub message_back : (f m : List ℕ) → ((i : ℕ) → i < 256 → at f i < 3329) → length m ≡ 32 → T (all_below 256 m) → 4 * norm 3329 (sub_p 3329 f (mu m)) < 3328 → pack 1 (compress_p 1 f) ≡ m
message_back f m small l b noise_below_quarter =
    ap (pack 1) (sym (is_table 256 (λ i. compress 1 (at f i)) (unpack 1 256 m) (length-table 256 _) (λ i h. unpack-bit 256 m i h ∙ sym (each i h)))) ∙ pack-unpack 1 256 32 m (omega arith) refl l b
  where
    place : (i : ℕ) → i < 256 → at (sub_p 3329 f (mu m)) i ≡ (at f i + (3329 - decompress 1 (bit m i) % 3329)) % 3329
    place i h = at_table 256 _ i h ∙ ap (λ x. (at f i + (3329 - x % 3329)) % 3329) (at_table 256 (λ i. decompress 1 (bit m i)) i h)

    near : (i : ℕ) → i < 256 → magnitude 3329 (at (sub_p 3329 f (mu m)) i) < 832
    near i h = omega (arith, norm-at 3329 (sub_p 3329 f (mu m)) i (rw (length-table 256 _) h))

    each : (i : ℕ) → i < 256 → compress 1 (at f i) ≡ bit m i
    each i h = read_back (at f i) (bit m i) (small i h) (omega arith) (subst (λ x. magnitude 3329 x < 832) (place i h) (near i h))
