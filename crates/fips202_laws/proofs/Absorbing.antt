-- A sponge that absorbs: a byte, whole lanes, a block that is full, and the end of the message.
use Rattle.std.proofs.Common.{◌≡◌, ℕ, ◌+◌, ◌-◌, ◌/◌, ◌%◌, ◌<◌, ◌≤◌, List, [], ◌∷◌, ◌++◌, length, take, drop, replicate, sym, refl, ap, ◌∙◌, ap₂, zero-add, add-one, arith}
use Rattle.std.proofs.Math.Nat.{add-div_left}
use Rattle.std.specs.Int.Bits.{xor_zero_r}
use Rattle.std.proofs.lemmas.Bool.Decides.{nat_tests}
use Rattle.std.proofs.lemmas.Grind.{common_steps}
use Rattle.std.proofs.lemmas.List.{length-replicate, take_at, drop_at, take_rest, take-append-drop, append_assoc}
use Rattle.standards.specs.Lists.{at}
use Rattle.standards.specs.Fips202.{absorb_block, absorb_blocks, keccak_f}
use Rattle.algebra.proofs.Tables.{is_table}
use Rattle.fips202_laws.specs.Sponges.{absorbed_from, Absorbs, mixed_byte, mixed_lanes}
use Rattle.fips202_laws.proofs.Patches.{Patch, patch_front, patch_blocks, lanes_merged, byte_merged, no_lane, noughts_at}

-- bytes that were put into the lanes count as noughts
module _ (rate suffix place : ℕ) (a b bs m : List ℕ) (fits : place + length bs ≤ rate) (merge : (us vs : List ℕ) → Patch place (length bs) bs us vs → absorb_block rate us a ≡ absorb_block rate vs b) where
  put_in : absorbed_from rate suffix b (place + length bs) m ≡ absorbed_from rate suffix a place (bs ++ m)
  put_in =
      let n : ℕ = length bs in
      let xs : List ℕ = replicate place 0 ++ (bs ++ m) in
      let ys : List ℕ = replicate (place + n) 0 ++ m in
      let same : length xs ≡ length ys = grind (arith, common_steps) in
      let room : place + n ≤ length xs = grind (arith, common_steps) in
      let count : place + n + length m ≡ place + length (bs ++ m) = grind (arith, common_steps) in
      rw count (sym (patch_blocks place n bs xs ys (patch_front place bs m) ((place + length (bs ++ m)) / rate) rate suffix a b same room fits merge))

pub absorbs_byte : (rate place b : ℕ) (a : List ℕ) → length a ≡ 25 → place < rate → rate ≤ 200 → b < 256 → Absorbs rate a place (b ∷ []) (mixed_byte a place b) (place + 1)
absorbs_byte rate place b a long low high small suffix m =
    put_in rate suffix place a (mixed_byte a place b) (b ∷ []) m (omega arith) (λ us vs patch. byte_merged place rate b a us vs long low high small patch)

pub absorbs_lanes : (rate place : ℕ) (a bs : List ℕ) → place % 8 ≡ 0 → length bs % 8 ≡ 0 → place + length bs ≤ rate → Absorbs rate a place bs (mixed_lanes a (place / 8) bs) (place + length bs)
absorbs_lanes rate place a bs aligned whole fits suffix m =
    put_in rate suffix place a (mixed_lanes a (place / 8) bs) bs m fits (λ us vs patch. lanes_merged place rate a bs aligned whole fits us vs patch)

-- a block of noughts changes no lane
pub blank_block : (rate : ℕ) (a zs : List ℕ) → length a ≡ 25 → ((k : ℕ) → at zs k ≡ 0) → absorb_block rate zs a ≡ keccak_f a
blank_block rate a zs long none =
    ap keccak_f (sym (is_table 25 _ a long (λ i h. let blank = no_lane zs i (λ k l. none k) in grind (arith, nat_tests, xor_zero_r))))

-- a full block is permuted away
pub absorbs_full : (rate suffix : ℕ) (a m : List ℕ) → length a ≡ 25 → 0 < rate → absorbed_from rate suffix (keccak_f a) 0 m ≡ absorbed_from rate suffix a rate m
unfolding absorb_blocks
absorbs_full rate suffix a m long pos =
    let ws : List ℕ = replicate rate 0 in
    let len : length ws ≡ rate = length-replicate {A = ℕ} rate 0 in
    let first = ap (λ us. absorb_block rate us a) (take_at ws m rate len) ∙ blank_block rate a ws long (noughts_at rate) in
    rw (zero-add (length m), add-div_left (length m) pos, add-one (length m / rate)) (sym (ap₂ (absorb_blocks (length m / rate) rate suffix) (drop_at ws m rate len) first))

-- what is left of the bytes, once n of them are in, gives what all of them would have given
pub absorbs_rest : (rate : ℕ) (a : List ℕ) (p : ℕ) (b : List ℕ) (q n : ℕ) (bs : List ℕ) → Absorbs rate a p (take n bs) b q → (suffix : ℕ) (m : List ℕ) → absorbed_from rate suffix b q (take (length bs - n) (drop n bs) ++ m) ≡ absorbed_from rate suffix a p (bs ++ m)
absorbs_rest rate a p b q n bs some suffix m =
    rw (take_rest bs n) (some suffix (drop n bs ++ m) ∙ rw (← append_assoc (take n bs) (drop n bs) m, take-append-drop n bs) refl)
