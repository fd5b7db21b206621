-- Numbers modulo q around 0 as bytes and back; the parts of t; secrets are small.
use Rattle.std.proofs.Common.{◌≡◌, ℕ, ◌+◌, ◌-◌, ◌*◌, ◌/◌, ◌%◌, ◌^◌, ◌<◌, ◌≤◌, T, leb, List, length, sym, refl, ap, ◌∙◌, subst, inl, inr, arith, lit<}
use Rattle.std.proofs.lemmas.Bool.{cond_both, leb-true, leb-false}
use Rattle.standards.specs.Lists.{table, at, all_below}
use Rattle.standards.specs.Bytes.{pack, unpack}
use Rattle.standards.specs.Ring.{magnitude}
use Rattle.standards.specs.MlDsaParts.{bit_pack, bit_unpack, power2_round1, power2_round0}
use Rattle.algebra.proofs.Tables.{length-table, at_table, is_table, table_same, at_below, below_table}
use Rattle.algebra.proofs.Packing.{length-pack, unpack-pack, below_unpack, pack-unpack}
use Rattle.algebra.proofs.Congruence.{Same}
use Rattle.mldsa_laws.proofs.RoundingLemmas.{near_cases}

pub length-bit_pack : (d b : ℕ) (f : List ℕ) → length (bit_pack d b f) ≡ 32 * d
length-bit_pack d b f = length-pack d 256 (32 * d) (table 256 (λ i. (b + (8380417 - at f i)) % 8380417)) (omega arith) (length-table 256 _)

twice : (b x : ℕ) → x < 8380417 → b < 8380417 → (b + (8380417 - (b + (8380417 - x)) % 8380417)) % 8380417 ≡ x
twice b x lx lb = omega arith

pub unpack-table : (d : ℕ) (f : ℕ → ℕ) → ((k : ℕ) → k < 256 → f k < 2 ^ d) → unpack d 256 (pack d (table 256 f)) ≡ table 256 f
unpack-table d f h = unpack-pack d 256 (32 * d) (table 256 f) (omega arith) (length-table 256 f) (below_table (2 ^ d) 256 f h)

-- what was packed comes back
pub bit_unpack-bit_pack : (d b : ℕ) (f : List ℕ) → b < 8380417 → ((k : ℕ) → k < 256 → at f k < 8380417) → ((k : ℕ) → k < 256 → (b + (8380417 - at f k)) % 8380417 < 2 ^ d) → bit_unpack d b (bit_pack d b f) ≡ table 256 (at f)
bit_unpack-bit_pack d b f lb small h =
    table_same 256 _ (at f)
    (λ k l. ap (λ xs. (b + (8380417 - at xs k)) % 8380417) (unpack-table d (λ i. (b + (8380417 - at f i)) % 8380417) h) ∙
    (ap (λ x. (b + (8380417 - x)) % 8380417) (at_table 256 (λ i. (b + (8380417 - at f i)) % 8380417) k l) ∙ twice b (at f k) (small k l) lb))

-- and bytes come back from what was read of them
pub pack_from_unpack_from : (d b : ℕ) (bs : List ℕ) → 0 < d → b < 8380417 → 2 ^ d ≤ 8380417 → length bs ≡ 32 * d → T (all_below 256 bs) → bit_pack d b (bit_unpack d b bs) ≡ bs
pack_from_unpack_from d b bs pos lb ld long small =
    ap (pack d) (table_same 256 (λ k. (b + (8380417 - at (bit_unpack d b bs) k)) % 8380417) (at u) each ∙ sym (is_table 256 (at u) u (length-table 256 _) (λ k l. refl))) ∙
    pack-unpack d 256 (32 * d) bs pos (omega arith) long small
  where
    u : List ℕ
    u = unpack d 256 bs

    each : (k : ℕ) → k < 256 → (b + (8380417 - at (bit_unpack d b bs) k)) % 8380417 ≡ at u k
    each k l =
        ap (λ v. (b + (8380417 - v)) % 8380417) (at_table 256 (λ i. (b + (8380417 - at u i)) % 8380417) k l) ∙
        twice b (at u k) (omega (arith, at_below (2 ^ d) u k (below_unpack d 256 bs) (subst (λ x. k < x) (sym (length-table 256 _)) l))) lb

pub shift_below : (b B x : ℕ) → x < 8380417 → magnitude 8380417 x ≤ B → B ≤ b → b + B < 8380417 → (b + (8380417 - x)) % 8380417 ≤ b + B
shift_below b B x lx h lB lb = elim (near_cases x B lx h) [ inl c ↦ omega arith | inr c ↦ omega arith ]

-- ---- the two parts of t
pub t_parts : (r : ℕ) → r < 8380417 → (power2_round1 r < 1024) × ((4096 + (8380417 - power2_round0 r)) % 8380417 < 8192) × Same 8380417 ((8192 * power2_round1 r) % 8380417 + power2_round0 r) r
t_parts r l =
    cond_both (leb (r % 8192) 4096) (r / 8192) (r / 8192 + 1) (λ a. (a < 1024) × ((4096 + (8380417 - (r + (8380417 - (8192 * a) % 8380417)) % 8380417)) % 8380417 < 8192) × Same 8380417 ((8192 * a) % 8380417 + (r + (8380417 - (8192 * a) % 8380417)) % 8380417) r)
    (λ e. (omega arith, omega (arith, leb-true (r % 8192) 4096 e), record { is = omega arith }))
    (λ e. (omega (arith, leb-false (r % 8192) 4096 e), omega (arith, leb-false (r % 8192) 4096 e), record { is = omega arith }))

-- ---- secrets
pub record Tiny (eta x : ℕ) : Type 0 where
  pub small : x < 8380417
  pub close : magnitude 8380417 x ≤ eta

pub tiny_zero : (eta : ℕ) → Tiny eta 0
tiny_zero eta = record { small = lit< tt; close = omega arith }
