-- The end of a message: the suffix and the padding's last bit are put into the lanes as two bytes.
use Rattle.std.proofs.Common.{◌≡◌, ℕ, ◌+◌, ◌-◌, ◌*◌, ◌/◌, ◌%◌, ◌^◌, ◌<◌, ◌≤◌, cond, eqb, ltb, List, [], ◌∷◌, length, replicate, sym, refl, ap, ◌∙◌, ap₂, inl, inr, zero-add, arith}
use Rattle.std.proofs.Math.Path.{fun_ext}
use Rattle.std.proofs.Math.Nat.{div-eq_of_lt}
use Rattle.std.specs.Int.Bits.{bit_xor, xor_assoc, xor_comm, xor_shifted}
use Rattle.std.proofs.lemmas.List.{length-set, length-replicate, get_or-set_same, set-set, append-nil}
use Rattle.std.proofs.lemmas.Bool.Decides.{nat_tests}
use Rattle.std.proofs.lemmas.Bool.{cases_lt}
use Rattle.standards.specs.Lists.{table, at}
use Rattle.standards.specs.Fips202.{padded, absorb_block, absorb_blocks, permuted, state_byte, keccak_f}
use Rattle.fips202_laws.specs.Sponges.{absorbed_from, stream_from, read_from, mixed_byte}
use Rattle.fips202_laws.proofs.Patches.{Patch, byte_merged, table_at, noughts_at}
use Rattle.fips202_laws.proofs.Absorbing.{blank_block}

-- two bytes at one place, the higher bit apart
twice : (a : List ℕ) (p s : ℕ) → p / 8 < length a → p % 8 ≡ 7 → s < 128 → mixed_byte (mixed_byte a p s) p 128 ≡ mixed_byte a p (s + 128)
twice a p s inside seven small =
    let sum : 1 * 2 ^ 63 + s * 256 ^ 7 ≡ (s + 128) * 256 ^ 7 = omega arith in
    let fits : s * 256 ^ 7 < 2 ^ 63 = omega arith in
    let top : bit_xor (s * 256 ^ 7) (128 * 256 ^ 7) ≡ (s + 128) * 256 ^ 7 = xor_comm (s * 256 ^ 7) (128 * 256 ^ 7) ∙ (xor_shifted 1 63 (s * 256 ^ 7) fits ∙ sum) in
    rw (seven, set-set a (p / 8), get_or-set_same a (p / 8) (bit_xor (at a (p / 8)) (s * 256 ^ 7)) 0 inside, xor_assoc (at a (p / 8)) (s * 256 ^ 7) (128 * 256 ^ 7), top)

at_own : (b k p : ℕ) → k ≡ p → at (b ∷ []) (k - p) ≡ b
at_own b k p e = ap (at (b ∷ [])) {x = k - p} {y = 0} (omega arith)

module _ (rate suffix place : ℕ) (a : List ℕ) (long : length a ≡ 25) (low : place < rate) (high : rate ≤ 200) (lanes : rate % 8 ≡ 0) (small : suffix < 128) where
  abbrev last_bit : ℕ → ℕ
  last_bit k = cond (eqb k (rate - 1)) 128 0

  abbrev noughts : List ℕ
  noughts = replicate place 0

  abbrev block : List ℕ
  block = padded rate suffix noughts

  -- a block with nothing but the last bit
  abbrev bit_block : List ℕ
  bit_block = table rate last_bit

  block_at : (k : ℕ) → at block k ≡ cond (ltb k rate) (cond (ltb k place) 0 (cond (eqb k place) (suffix + last_bit k) (last_bit k))) 0
  block_at k =
      let is = table_at rate (λ i. cond (ltb i (length noughts)) (at noughts i) (cond (eqb i (length noughts)) (suffix + last_bit i) (last_bit i))) k in
      let none = noughts_at place k in
      let size = length-replicate {A = ℕ} place 0 in
      rw (is, none, size)

  suffix_patch : place < rate - 1 → Patch place 1 (suffix ∷ []) block bit_block
  suffix_patch l = record {
    before = λ k h. grind (arith, nat_tests, block_at k, table_at rate last_bit k);
    inside = λ k g h. grind (arith, nat_tests, block_at k, at_own suffix k place (omega arith));
    blank = λ k h. grind (arith, nat_tests, table_at rate last_bit k);
    beyond = λ k h. grind (arith, nat_tests, block_at k, table_at rate last_bit k);
  }

  bit_patch : Patch (rate - 1) 1 (128 ∷ []) bit_block []
  bit_patch = record {
    before = λ k h. grind (arith, nat_tests, table_at rate last_bit k);
    inside = λ k g h. grind (arith, nat_tests, table_at rate last_bit k, at_own 128 k (rate - 1) (omega arith));
    blank = λ k h. refl;
    beyond = λ k h. grind (arith, nat_tests, table_at rate last_bit k);
  }

  both_patch : place ≡ rate - 1 → Patch place 1 ((suffix + 128) ∷ []) block []
  both_patch e = record {
    before = λ k h. grind (arith, nat_tests, block_at k);
    inside = λ k g h. grind (arith, nat_tests, block_at k, at_own (suffix + 128) k place (omega arith));
    blank = λ k h. refl;
    beyond = λ k h. grind (arith, nat_tests, block_at k);
  }

  abbrev suffixed : List ℕ
  suffixed = mixed_byte a place suffix

  long' : length suffixed ≡ 25
  long' = length-set a (place / 8) _ ∙ long

  emptied : (b : List ℕ) (p v : ℕ) → length b ≡ 25 → absorb_block rate [] (mixed_byte b p v) ≡ keccak_f (mixed_byte b p v)
  emptied b p v len = blank_block rate (mixed_byte b p v) [] (length-set b (p / 8) _ ∙ len) (λ k. refl)

  last_block : absorb_block rate block a ≡ keccak_f (mixed_byte suffixed (rate - 1) 128)
  last_block = elim (cases_lt place (rate - 1)) [
    | inl l ↦
        byte_merged place rate suffix a _ _ long low high (omega arith) (suffix_patch l) ∙
        (byte_merged (rate - 1) rate 128 suffixed _ _ long' (omega arith) high (omega arith) bit_patch ∙ emptied suffixed (rate - 1) 128 long')
    | inr g ↦
        let e : place ≡ rate - 1 = omega arith in
        byte_merged place rate (suffix + 128) a _ _ long low high (omega arith) (both_patch e) ∙
        (emptied a place (suffix + 128) long ∙
        ap keccak_f (sym (twice a place suffix (omega arith) (omega arith) small) ∙ ap (λ p. mixed_byte suffixed p 128) e))
  ]

  ended : absorbed_from rate suffix a place [] ≡ keccak_f (mixed_byte suffixed (rate - 1) 128)
  unfolding absorb_blocks
  ended =
      let less : place + 0 < rate = omega arith in
      ap₂ (λ (q : ℕ) (xs : List ℕ). absorb_blocks q rate suffix xs a) (div-eq_of_lt less) (append-nil noughts) ∙ last_block

  -- what is read of the lanes then
  pub finished : read_from rate (keccak_f (mixed_byte suffixed (rate - 1) 128)) 0 ≡ stream_from rate suffix a place []
  finished = fun_ext (λ i. ap₂ (λ (b : List ℕ) (k : ℕ). state_byte (permuted (k / rate) b) (k % rate)) (sym ended) (zero-add i))
