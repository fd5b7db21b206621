-- A good attempt at signing passes the check, for keys whose parts belong together.
use Rattle.std.proofs.Common.{◌≡◌, ℕ, ◌+◌, ◌-◌, ◌*◌, ◌/◌, ◌%◌, ◌<◌, ◌≤◌, T, eqb, leb, List, ◌++◌, length, take, sym, refl, ap, ◌∙◌, subst, ap₂, mod-lt, arith, lit<, lt→ltb}
use Rattle.std.proofs.lemmas.Bool.{cond_both}
use Rattle.standards.specs.Lists.{table, tables, at, row_at, same}
use Rattle.standards.specs.Ring.{add_p, sub_p, mul_at, magnitude, norms}
use Rattle.standards.specs.Hashes.{Hashes, Fair, shake256_bytes}
use Rattle.standards.specs.Ring.{sum_p}
use Rattle.standards.specs.MlDsaParts.{DsaSet, beta, gamma1, ntt, ntt_inv, multiply_ntt, expand_a, sample_in_ball, low_bits, high_bits_p, low_bits_p, make_hint, use_hint, use_hint_p, w1_encode}
use Rattle.standards.specs.MlDsa.{sk_rho, sk_s1, sk_s2, sk_t0, pk_t1, sig_length, z_of, hint_row, mu_of, verify}
use Rattle.algebra.proofs.Congruence.{Same, ◌▸◌, same_is, same_add}
use Rattle.algebra.proofs.Tables.{length-table, at_table, table_same}
use Rattle.algebra.proofs.Tests.{from_both, eqb_is, same_lists}
use Rattle.algebra.proofs.Rows.{row_at_lem, length-tables, tables-same}
use Rattle.algebra.proofs.Norms.{norms_below}
use Rattle.algebra.proofs.DsaTransform.{dsa_product}
use Rattle.mldsa_laws.proofs.SmallProducts.{small_product}
use Rattle.mldsa_laws.proofs.Challenge.{challenge_is}
use Rattle.algebra.proofs.PolySums.{sum_p-same}
use Rattle.mldsa_laws.proofs.CheckEquation.{add_at, checked_is}
use Rattle.mldsa_laws.proofs.BitPacking.{Tiny}
use Rattle.mldsa_laws.proofs.Sets.{Fit}
use Rattle.mldsa_laws.proofs.HintRecovers.{heart}
use Rattle.mldsa_laws.proofs.HintBytes.{hint_back, good_hints, rest_zero}
use Rattle.mldsa_laws.proofs.AttemptParts.{y_of, w_of_lem, c_of, cn_of, z_row, v_row_lem, ct_row, hs_row, hs_of, sig_of, Good, c_back, hints_back, sig_long, z-back, z-norm}

-- the product of a challenge and a small polynomial has numbers of at most beta
module _ (h : Hashes) (fair : Fair h) (p : DsaSet) (fits : Fit p) where
  pub secret_product : (c s : List ℕ) → ((n : ℕ) → Tiny p.eta (at s n)) → (n : ℕ) → n < 256 → magnitude 8380417 (at (ntt_inv (multiply_ntt (ntt (sample_in_ball h p c)) (ntt s))) n) ≤ beta p
  secret_product c s tiny n l =
      subst (λ x. magnitude 8380417 x ≤ beta p) (sym (ap (λ f. at f n) (dsa_product (sample_in_ball h p c) s) ∙ at_table 256 (mul_at 8380417 (sample_in_ball h p c) s) n l))
      (small_product (sample_in_ball h p c) s p.tau p.eta fits.beta_small (challenge_is h fair p c).small (challenge_is h fair p c).light (λ k. ((tiny k).small, (tiny k).close)) n)

module _ (h : Hashes) (fair : Fair h) (p : DsaSet) (fits : Fit p) (sk pk u r : List ℕ) (kappa : ℕ)
    (same-rho : take 32 pk ≡ sk_rho sk)
    (key : (i : ℕ) → i < p.k → (n : ℕ) → n < 256 →
    Same 8380417 (at (table 256 (λ m. (8192 * at (pk_t1 pk i) m) % 8380417)) n + at (sk_t0 p sk i) n) (at (ntt_inv (sum_p 8380417 p.l (λ j. multiply_ntt (expand_a h (sk_rho sk) i j) (ntt (sk_s1 p sk j))))) n + at (sk_s2 p sk i) n))
    (s2_tiny : (i : ℕ) → i < p.k → (n : ℕ) → Tiny p.eta (at (sk_s2 p sk i) n))
    (good : Good h p sk u r kappa) where
  abbrev S : List ℕ
  S = sig_of h p sk u r kappa

  -- what checking computes for row i
  abbrev w'_row : ℕ → List ℕ
  w'_row i = ntt_inv (sub_p 8380417 (sum_p 8380417 p.l (λ j. multiply_ntt (expand_a h (take 32 pk) i j) (row_at (tables p.l (λ i. ntt (z_of p S i))) j))) (multiply_ntt (ntt (sample_in_ball h p (take (p.lambda / 4) S))) (ntt (table 256 (λ n. (8192 * at (pk_t1 pk i) n) % 8380417)))))

  abbrev cs_row : ℕ → List ℕ
  cs_row i = ntt_inv (multiply_ntt (cn_of h p sk u r kappa) (ntt (sk_s2 p sk i)))

  w'_is : (i : ℕ) → w'_row i ≡ ntt_inv (sub_p 8380417 (sum_p 8380417 p.l (λ j. multiply_ntt (expand_a h (sk_rho sk) i j) (ntt (z_row h p sk u r kappa j)))) (multiply_ntt (cn_of h p sk u r kappa) (ntt (table 256 (λ n. (8192 * at (pk_t1 pk i) n) % 8380417)))))
  w'_is i =
      ap (λ x. ntt_inv (sub_p 8380417 x (multiply_ntt (ntt (sample_in_ball h p (take (p.lambda / 4) S))) (ntt (table 256 (λ n. (8192 * at (pk_t1 pk i) n) % 8380417))))))
      (sum_p-same 8380417 p.l _ _ (λ j lj. ap₂ multiply_ntt (ap (λ ρ. expand_a h ρ i j) same-rho) (row_at_lem p.l (λ i. ntt (z_of p S i)) j lj ∙ ap ntt (z-back h p sk u r kappa good fits j lj)))) ∙
      ap (λ c. ntt_inv (sub_p 8380417 (sum_p 8380417 p.l (λ j. multiply_ntt (expand_a h (sk_rho sk) i j) (ntt (z_row h p sk u r kappa j)))) (multiply_ntt (ntt (sample_in_ball h p c)) (ntt (table 256 (λ n. (8192 * at (pk_t1 pk i) n) % 8380417)))))) (c_back h p sk u r kappa)

  w_is : (i : ℕ) → i < p.k → row_at (w_of_lem h p sk u r kappa) i ≡ ntt_inv (sum_p 8380417 p.l (λ j. multiply_ntt (expand_a h (sk_rho sk) i j) (ntt (row_at (y_of h p sk u r kappa) j))))
  w_is i l = row_at_lem p.k _ i l ∙ ap ntt_inv (sum_p-same 8380417 p.l _ _ (λ j lj. ap (multiply_ntt (expand_a h (sk_rho sk) i j)) (row_at_lem p.l (λ i. ntt (row_at (y_of h p sk u r kappa) i)) j lj)))

  checked : (i n : ℕ) → i < p.k → n < 256 → Same 8380417 (at (w'_row i) n + at (cs_row i) n) (at (row_at (w_of_lem h p sk u r kappa) i) n + at (ct_row h p sk u r kappa i) n)
  checked i n li ln =
      same_add (same_is (ap (λ f. at f n) (w'_is i))) (same_is refl) ▸
      checked_is p.l (λ j. expand_a h (sk_rho sk) i j) (λ j. row_at (y_of h p sk u r kappa) j) (sk_s1 p sk) (z_row h p sk u r kappa) (cn_of h p sk u r kappa) (sk_s2 p sk i) (table 256 (λ m. (8192 * at (pk_t1 pk i) m) % 8380417)) (sk_t0 p sk i)
      (λ j lj m lm. add_at (row_at (y_of h p sk u r kappa) j) (ntt_inv (multiply_ntt (cn_of h p sk u r kappa) (ntt (sk_s1 p sk j)))) m lm) (key i li) n ln ▸
      same_add (same_is (ap (λ f. at f n) (sym (w_is i li)))) (same_is refl)

  back_small : (f : List ℕ) (n : ℕ) → n < 256 → at (ntt_inv f) n < 8380417
  back_small f n l = subst (λ x. x < 8380417) (sym (at_table 256 _ n l)) (mod-lt _ (lit< tt))

  v_at : (i n : ℕ) → n < 256 → at (v_row_lem h p sk u r kappa i) n ≡ (at (row_at (w_of_lem h p sk u r kappa) i) n + (8380417 - at (cs_row i) n % 8380417)) % 8380417
  v_at i n l = at_table 256 (λ m. (at (row_at (w_of_lem h p sk u r kappa) i) m + (8380417 - at (cs_row i) m % 8380417)) % 8380417) n l

  -- the hint of row i at place n
  hint_at : (i n : ℕ) → i < p.k → n < 256 → at (hs_row h p sk u r kappa i) n ≡
      make_hint p.gamma2 ((0 + (8380417 - at (ct_row h p sk u r kappa i) n % 8380417)) % 8380417) (((at (row_at (w_of_lem h p sk u r kappa) i) n + (8380417 - at (cs_row i) n % 8380417)) % 8380417 + at (ct_row h p sk u r kappa i) n) % 8380417)
  hint_at i n li ln =
      at_table 256 _ n ln ∙
      (ap₂ (λ c v. make_hint p.gamma2 (at (sub_p 8380417 (table 256 (λ n. 0)) c) n) (at (add_p 8380417 v c) n)) (row_at_lem p.k (ct_row h p sk u r kappa) i li) (row_at_lem p.k (v_row_lem h p sk u r kappa) i li) ∙
      ap₂ (make_hint p.gamma2)
      (at_table 256 (λ m. (at (table 256 (λ n. 0)) m + (8380417 - at (ct_row h p sk u r kappa i) m % 8380417)) % 8380417) n ln ∙ ap (λ x. (x + (8380417 - at (ct_row h p sk u r kappa i) n % 8380417)) % 8380417) (at_table 256 (λ n. 0) n ln))
      (at_table 256 (λ m. (at (v_row_lem h p sk u r kappa i) m + at (ct_row h p sk u r kappa i) m) % 8380417) n ln ∙ ap (λ x. (x + at (ct_row h p sk u r kappa i) n) % 8380417) (v_at i n ln)))

  hint_one : (i n : ℕ) → i < p.k → n < 256 → at (hs_row h p sk u r kappa i) n ≤ 1
  hint_one i n li ln = subst (λ x. x ≤ 1) (sym (at_table 256 _ n ln)) (cond_both _ 0 1 (λ x. x ≤ 1) (λ _. omega arith) (λ _. omega arith))

  low_far : (i n : ℕ) → i < p.k → n < 256 → magnitude 8380417 (low_bits p.gamma2 ((at (row_at (w_of_lem h p sk u r kappa) i) n + (8380417 - at (cs_row i) n % 8380417)) % 8380417)) < p.gamma2 - beta p
  low_far i n li ln =
      subst (λ x. magnitude 8380417 x < p.gamma2 - beta p) is
      (norms_below 8380417 (p.gamma2 - beta p) p.k (λ i. low_bits_p p.gamma2 (row_at (tables p.k (v_row_lem h p sk u r kappa)) i)) good.v_small i n li (subst (λ x. n < x) (sym (length-table 256 _)) ln))
    where
      is : at (low_bits_p p.gamma2 (row_at (tables p.k (v_row_lem h p sk u r kappa)) i)) n ≡ low_bits p.gamma2 ((at (row_at (w_of_lem h p sk u r kappa) i) n + (8380417 - at (cs_row i) n % 8380417)) % 8380417)
      is = at_table 256 _ n ln ∙ ap (low_bits p.gamma2) (ap (λ f. at f n) (row_at_lem p.k (v_row_lem h p sk u r kappa) i li) ∙ v_at i n ln)

  ct_far : (i n : ℕ) → i < p.k → n < 256 → magnitude 8380417 (at (ct_row h p sk u r kappa i) n) < p.gamma2
  ct_far i n li ln = norms_below 8380417 p.gamma2 p.k (ct_row h p sk u r kappa) good.ct_small i n li (subst (λ x. n < x) (sym (length-table 256 _)) ln)

  all_rows : length (hs_of h p sk u r kappa) ≡ p.k
  all_rows = length-tables p.k (hs_row h p sk u r kappa)

  hint_row_lem : (i : ℕ) → i < p.k → hint_row p S i ≡ hs_row h p sk u r kappa i
  hint_row_lem i l =
      hint_back p S (hs_of h p sk u r kappa) (hints_back h p sk u r kappa) good.few all_rows i l (ap length (row_at_lem p.k (hs_row h p sk u r kappa) i l) ∙ length-table 256 _)
      (λ n b. subst (λ f. at f n ≤ 1) (sym (row_at_lem p.k (hs_row h p sk u r kappa) i l)) (hint_one i n l b)) ∙
      row_at_lem p.k (hs_row h p sk u r kappa) i l

  same_row : (i : ℕ) → i < p.k → use_hint_p p.gamma2 (hint_row p S i) (row_at (tables p.k w'_row) i) ≡ high_bits_p p.gamma2 (row_at (w_of_lem h p sk u r kappa) i)
  same_row i li =
      table_same 256 _ _
      (λ n ln. ap₂ (use_hint p.gamma2) (ap (λ f. at f n) (hint_row_lem i li) ∙ hint_at i n li ln) (ap (λ f. at f n) (row_at_lem p.k w'_row i li)) ∙
      heart p.gamma2 fits.steps fits.gamma_pos fits.whole (beta p) (at (row_at (w_of_lem h p sk u r kappa) i) n) (at (w'_row i) n) (at (cs_row i) n) (at (ct_row h p sk u r kappa i) n)
      (subst (λ f. at f n < 8380417) (sym (w_is i li)) (back_small _ n ln)) (back_small _ n ln) (back_small _ n ln) (back_small _ n ln) (checked i n li ln)
      (secret_product h fair p fits (c_of h p sk u r kappa) (sk_s2 p sk i) (s2_tiny i li) n ln) (low_far i n li ln) (ct_far i n li ln))

  same_hash : take (p.lambda / 4) S ≡ shake256_bytes h (u ++ w1_encode p (tables p.k (λ i. use_hint_p p.gamma2 (hint_row p S i) (row_at (tables p.k w'_row) i)))) (p.lambda / 4)
  same_hash = c_back h p sk u r kappa ∙ ap (λ rs. shake256_bytes h (u ++ w1_encode p rs) (p.lambda / 4)) (sym (tables-same p.k _ _ same_row))

  pub accepted : (ctx m : List ℕ) → u ≡ mu_of h (shake256_bytes h pk 64) ctx m → length pk ≡ 32 + 320 * p.k → T (leb (length ctx) 255) → T (verify h p pk ctx m S)
  accepted ctx m mu pk_long short =
      from_both _ _
      (from_both _ _
      (from_both _ _
      (from_both _ _
      (from_both _ _
      (from_both (eqb (length S) (sig_length p)) (eqb (length pk) (32 + 320 * p.k)) (eqb_is _ _ (sig_long h p sk u r kappa good)) (eqb_is _ _ pk_long))
      short)
      (good_hints p S (hs_of h p sk u r kappa) (hints_back h p sk u r kappa) good.few all_rows p.k (omega arith)))
      (rest_zero p S (hs_of h p sk u r kappa) (hints_back h p sk u r kappa) good.few all_rows fits.rows_pos))
      (lt→ltb (norms 8380417 (tables p.l (z_of p S))) (gamma1 p - beta p) (z-norm h p sk u r kappa good fits)))
      (subst (λ v. T (same (take (p.lambda / 4) S) (shake256_bytes h (v ++ w1_encode p (tables p.k (λ i. use_hint_p p.gamma2 (hint_row p S i) (row_at (tables p.k w'_row) i)))) (p.lambda / 4)))) mu
      (same_lists _ _ same_hash))
