-- The parts of one attempt at signing, by name, and how they come out of its bytes again.
use Rattle.std.proofs.Common.{◌≡◌, ℕ, ◌+◌, ◌-◌, ◌*◌, ◌/◌, ◌<◌, ◌≤◌, T, ltb, leb, List, ◌++◌, length, take, sym, refl, ap, ◌∙◌, subst, mod-lt, arith, lit<, ltb→lt, leb→le, length-append}
use Rattle.std.proofs.lemmas.List.{take_at, drop_at}
use Rattle.standards.specs.Lists.{table, tables, at, row_at, joined, all_below}
use Rattle.standards.specs.Ring.{add_p, sub_p, magnitude, norms}
use Rattle.standards.specs.Hashes.{Hashes, Fair, shake256_bytes}
use Rattle.standards.specs.Ring.{sum_p}
use Rattle.standards.specs.MlDsaParts.{DsaSet, gamma1, beta, ntt, ntt_inv, multiply_ntt, expand_a, sample_in_ball, expand_mask, high_bits_p, low_bits_p, make_hint_p, hint_count, w1_encode, bit_pack, bit_unpack, hint_bit_pack}
use Rattle.standards.specs.MlDsa.{sk_rho, sk_s1, sk_s2, sk_t0, hint_part, z_of, sig_length, attempt}
use Rattle.algebra.proofs.Tests.{both}
use Rattle.algebra.proofs.Tables.{length-table, at_table, table_same, below_table, below_append}
use Rattle.algebra.proofs.Packing.{below_pack}
use Rattle.algebra.proofs.Rows.{row_at_lem, length-tables, tables-same, drop_past, length-joined, piece, below_joined}
use Rattle.algebra.proofs.Norms.{norms_below}
use Rattle.mldsa_laws.proofs.BitPacking.{length-bit_pack, bit_unpack-bit_pack, shift_below}
use Rattle.mldsa_laws.proofs.Sets.{Fit}
use Rattle.mldsa_laws.proofs.HintBytes.{length_hints, bytes_hints}

module _ (h : Hashes) (p : DsaSet) (sk u r : List ℕ) (kappa : ℕ) where
  abbrev pub y_of : List (List ℕ)
  y_of = tables p.l (λ i. expand_mask h p r (kappa + i))

  abbrev pub w_of_lem : List (List ℕ)
  w_of_lem = tables p.k (λ i. ntt_inv (sum_p 8380417 p.l (λ j. multiply_ntt (expand_a h (sk_rho sk) i j) (row_at (tables p.l (λ i. ntt (row_at y_of i))) j))))

  abbrev pub c_of : List ℕ
  c_of = shake256_bytes h (u ++ w1_encode p (tables p.k (λ i. high_bits_p p.gamma2 (row_at w_of_lem i)))) (p.lambda / 4)

  abbrev pub cn_of : List ℕ
  cn_of = ntt (sample_in_ball h p c_of)

  abbrev pub z_row : ℕ → List ℕ
  z_row i = add_p 8380417 (row_at y_of i) (ntt_inv (multiply_ntt cn_of (ntt (sk_s1 p sk i))))

  abbrev pub v_row_lem : ℕ → List ℕ
  v_row_lem i = sub_p 8380417 (row_at w_of_lem i) (ntt_inv (multiply_ntt cn_of (ntt (sk_s2 p sk i))))

  abbrev pub ct_row : ℕ → List ℕ
  ct_row i = ntt_inv (multiply_ntt cn_of (ntt (sk_t0 p sk i)))

  abbrev pub hs_row : ℕ → List ℕ
  hs_row i = make_hint_p p.gamma2 (sub_p 8380417 (table 256 (λ n. 0)) (row_at (tables p.k ct_row) i)) (add_p 8380417 (row_at (tables p.k v_row_lem) i) (row_at (tables p.k ct_row) i))

  abbrev pub hs_of : List (List ℕ)
  hs_of = tables p.k hs_row

  pub record Good : Type 0 where
    pub z_small : norms 8380417 (tables p.l z_row) < gamma1 p - beta p
    pub v_small : norms 8380417 (tables p.k (λ i. low_bits_p p.gamma2 (row_at (tables p.k v_row_lem) i))) < p.gamma2 - beta p
    pub ct_small : norms 8380417 (tables p.k ct_row) < p.gamma2
    pub few : hint_count hs_of ≤ p.omega

  pub is_good : T (attempt h p sk u r kappa).good → Good
  is_good t =
      let a = both _ (leb (hint_count hs_of) p.omega) t in
      let b = both _ (ltb (norms 8380417 (tables p.k ct_row)) p.gamma2) a.0 in
      let c = both (ltb (norms 8380417 (tables p.l z_row)) (gamma1 p - beta p)) (ltb (norms 8380417 (tables p.k (λ i. low_bits_p p.gamma2 (row_at (tables p.k v_row_lem) i)))) (p.gamma2 - beta p)) b.0 in
      record { z_small = ltb→lt _ _ c.0; v_small = ltb→lt _ _ c.1; ct_small = ltb→lt _ _ b.1; few = leb→le _ _ a.1 }

  abbrev pub sig_of : List ℕ
  sig_of = (attempt h p sk u r kappa).bytes

  abbrev z_bytes : ℕ → List ℕ
  z_bytes i = bit_pack (p.gamma1_bits + 1) (gamma1 p) (row_at (tables p.l z_row) i)

  z_each : (i : ℕ) → length (z_bytes i) ≡ 32 * (p.gamma1_bits + 1)
  z_each i = length-bit_pack (p.gamma1_bits + 1) (gamma1 p) (row_at (tables p.l z_row) i)

  c_long : length c_of ≡ p.lambda / 4
  c_long = length-table (p.lambda / 4) _

  pub c_back : take (p.lambda / 4) sig_of ≡ c_of
  c_back = take_at c_of _ (p.lambda / 4) c_long

  pub hints_back : hint_part p sig_of ≡ hint_bit_pack p hs_of
  hints_back =
      drop_past c_of _ (p.lambda / 4) (32 * (p.gamma1_bits + 1) * p.l) (p.lambda / 4 + 32 * (p.gamma1_bits + 1) * p.l) c_long refl ∙
      drop_at (joined (tables p.l z_bytes)) (hint_bit_pack p hs_of) (32 * (p.gamma1_bits + 1) * p.l) (length-joined (32 * (p.gamma1_bits + 1)) z_bytes z_each p.l)

  module _ (good : Good) where
    pub sig_long : length sig_of ≡ sig_length p
    sig_long =
        length-append c_of (joined (tables p.l z_bytes) ++ hint_bit_pack p hs_of) ∙
        omega (arith, c_long, length-append (joined (tables p.l z_bytes)) (hint_bit_pack p hs_of), length-joined (32 * (p.gamma1_bits + 1)) z_bytes z_each p.l, length_hints p sig_of hs_of hints_back good.few (length-tables p.k hs_row))

    pub sig_bytes : Fair h → p.omega < 256 → T (all_below 256 sig_of)
    sig_bytes fair small =
        below_append 256 c_of _ (below_table 256 (p.lambda / 4) _ (λ i _. fair.shake256_byte _ i))
        (below_append 256 (joined (tables p.l z_bytes)) (hint_bit_pack p hs_of) (below_joined 256 p.l z_bytes (λ i. below_pack (p.gamma1_bits + 1) _))
        (bytes_hints p sig_of hs_of hints_back good.few (length-tables p.k hs_row) small (λ i l. ap length (row_at_lem p.k hs_row i (omega (arith, length-tables p.k hs_row))) ∙ length-table 256 _)))

    pub z_far : (i n : ℕ) → i < p.l → n < 256 → magnitude 8380417 (at (z_row i) n) < gamma1 p - beta p
    z_far i n li ln = norms_below 8380417 (gamma1 p - beta p) p.l z_row good.z_small i n li (subst (λ x. n < x) (sym (length-table 256 _)) ln)

    module _ (fits : Fit p) where
      z-modulo : (i n : ℕ) → n < 256 → at (z_row i) n < 8380417
      z-modulo i n l = subst (λ x. x < 8380417) (sym (at_table 256 _ n l)) (mod-lt _ (lit< tt))

      pub z-back : (i : ℕ) → i < p.l → z_of p sig_of i ≡ z_row i
      z-back i l =
          ap (bit_unpack (p.gamma1_bits + 1) (gamma1 p))
          (ap (take (32 * (p.gamma1_bits + 1))) (drop_past c_of _ (p.lambda / 4) (32 * (p.gamma1_bits + 1) * i) (p.lambda / 4 + 32 * (p.gamma1_bits + 1) * i) c_long refl) ∙
          (piece (32 * (p.gamma1_bits + 1)) z_bytes z_each p.l i l (hint_bit_pack p hs_of) ∙ ap (bit_pack (p.gamma1_bits + 1) (gamma1 p)) (row_at_lem p.l z_row i l))) ∙
          (bit_unpack-bit_pack (p.gamma1_bits + 1) (gamma1 p) (z_row i) (omega (arith, fits.mask_small)) (z-modulo i)
          (λ n b. omega (arith, shift_below (gamma1 p) (gamma1 p - 1) (at (z_row i) n) (z-modulo i n b) (omega (arith, z_far i n l b)) (omega arith) (omega (arith, fits.mask_small)), fits.mask_bits, z_far i n l b)) ∙
          table_same 256 _ _ (λ n b. at_table 256 _ n b))

      pub z-norm : norms 8380417 (tables p.l (z_of p sig_of)) < gamma1 p - beta p
      z-norm = subst (λ x. norms 8380417 x < gamma1 p - beta p) (sym (tables-same p.l (z_of p sig_of) z_row z-back)) good.z_small
