-- Every signature that signing gives passes its check.
use Rattle.std.proofs.Common.{◌≡◌, ℕ, zero, suc, ◌+◌, ◌*◌, ◌%◌, ◌<◌, ◌≤◌, Bool, true, false, T, List, ◌++◌, length, sym, refl, ap, ◌∙◌, subst, inl, inr, arith}
use Rattle.std.proofs.lemmas.List.{get_or_past}
use Rattle.std.proofs.lemmas.Bool.{cases_lt, cond-true, cond-false}
use Rattle.standards.specs.Lists.{table, at}
use Rattle.standards.specs.Hashes.{Hashes, Fair, shake256_bytes}
use Rattle.standards.specs.Ring.{sum_p}
use Rattle.standards.specs.MlDsaParts.{DsaSet, expand_a, ntt_inv, multiply_ntt, ntt}
use Rattle.standards.specs.MlDsa.{attempt, or_else, attempts, mu_of, sk_rho, sk_k, sk_tr, sk_s1, sk_s2, sk_t0, pk_t1, sk_of, pk_of, s2_of, sign, sig_length, verify}
use Rattle.standards.specs.Bytes.{Bytes}
use Rattle.standards.specs.Promises.{SignaturesPass}
use Rattle.algebra.proofs.Congruence.{Same}
use Rattle.algebra.proofs.Tables.{length-table, at_table}
use Rattle.mldsa_laws.proofs.BitPacking.{Tiny, tiny_zero}
use Rattle.mldsa_laws.proofs.Sets.{Fit, fit}
use Rattle.mldsa_laws.proofs.Keys.{sk_rho_lem, pk_rho, sk_tr_lem, sk_s2_lem, s2_tiny, key_is, pk_long}
use Rattle.mldsa_laws.proofs.AttemptParts.{is_good, sig_long, sig_bytes}
use Rattle.mldsa_laws.proofs.AttemptPasses.{accepted}

-- what attempts give, if anything, are the bytes of a good one
pub attempts_good : (n : ℕ) (h : Hashes) (p : DsaSet) (sk m r : List ℕ) (kappa : ℕ) → 0 < length (attempts n h p sk m r kappa) →
    (j : ℕ) × T (attempt h p sk m r j).good × (attempts n h p sk m r kappa ≡ (attempt h p sk m r j).bytes)
unfolding attempts
attempts_good zero h p sk m r kappa l = absurd (omega arith)
attempts_good (suc n) h p sk m r kappa l = go (attempt h p sk m r kappa).good refl (attempts_good n h p sk m r (kappa + p.l))
  where
    go : (b : Bool) → (attempt h p sk m r kappa).good ≡ b →
        (0 < length (attempts n h p sk m r (kappa + p.l)) → (j : ℕ) × T (attempt h p sk m r j).good × (attempts n h p sk m r (kappa + p.l) ≡ (attempt h p sk m r j).bytes)) →
        (j : ℕ) × T (attempt h p sk m r j).good × (or_else (attempt h p sk m r kappa) (attempts n h p sk m r (kappa + p.l)) ≡ (attempt h p sk m r j).bytes)
    go true e next = (kappa, subst T (sym e) tt, cond-true _ _ _ e)
    go false e next =
        let is : or_else (attempt h p sk m r kappa) (attempts n h p sk m r (kappa + p.l)) ≡ attempts n h p sk m r (kappa + p.l) = cond-false _ _ _ e in
        let t = next (subst (λ s. 0 < length s) is l) in
        (t.0, t.1, is ∙ t.2)

-- a signature is bytes, of the set's length
pub sign_bytes : (h : Hashes) → Fair h → (p : DsaSet) → Fit p → (sk ctx m rnd : List ℕ) → 0 < length (sign h p sk ctx m rnd) → Bytes (sig_length p) (sign h p sk ctx m rnd)
sign_bytes h fair p fits sk ctx m rnd pos =
    let u = mu_of h (sk_tr sk) ctx m in
    let r = shake256_bytes h (sk_k sk ++ (rnd ++ u)) 64 in
    let t = attempts_good 1024 h p sk u r 0 pos in
    let good = is_good h p sk u r t.0 t.1 in
    subst (Bytes (sig_length p)) (sym t.2) (sig_long h p sk u r t.0 good, sig_bytes h p sk u r t.0 good fair fits.hints_few)

module _ (h : Hashes) (p : DsaSet) (fits : Fit p) (xi : List ℕ) where
  s2_small : (i : ℕ) → i < p.k → (n : ℕ) → Tiny p.eta (at (sk_s2 p (sk_of h p xi) i) n)
  s2_small i l n =
      subst (λ f. Tiny p.eta (at f n)) (sym (sk_s2_lem h p fits xi i l))
      (elim (cases_lt n 256) [ inl b ↦ subst (Tiny p.eta) (sym (at_table 256 (at (s2_of h p xi i)) n b)) (s2_tiny h p fits xi i n) | inr b ↦ subst (Tiny p.eta) (sym (get_or_past (table 256 (at (s2_of h p xi i))) n 0 (subst (λ x. x ≤ n) (sym (length-table 256 (at (s2_of h p xi i)))) b))) (tiny_zero p.eta) ])

  key_parts : (i : ℕ) → i < p.k → (n : ℕ) → n < 256 →
      Same 8380417 (at (table 256 (λ m. (8192 * at (pk_t1 (pk_of h p xi) i) m) % 8380417)) n + at (sk_t0 p (sk_of h p xi) i) n)
      (at (ntt_inv (sum_p 8380417 p.l (λ j. multiply_ntt (expand_a h (sk_rho (sk_of h p xi)) i j) (ntt (sk_s1 p (sk_of h p xi) j))))) n + at (sk_s2 p (sk_of h p xi) i) n)
  key_parts i li n ln =
      subst (λ ρ. Same 8380417 (at (table 256 (λ m. (8192 * at (pk_t1 (pk_of h p xi) i) m) % 8380417)) n + at (sk_t0 p (sk_of h p xi) i) n)
      (at (ntt_inv (sum_p 8380417 p.l (λ j. multiply_ntt (expand_a h ρ i j) (ntt (sk_s1 p (sk_of h p xi) j))))) n + at (sk_s2 p (sk_of h p xi) i) n)) (sym (sk_rho_lem h p fits xi)) (key_is h p fits xi i li n ln)

pub signatures_pass : SignaturesPass
signatures_pass h fair p one xi ctx m rnd bxi short bctx bm brnd pos =
    let sk = sk_of h p xi in
    let pk = pk_of h p xi in
    let u = mu_of h (sk_tr sk) ctx m in
    let r = shake256_bytes h (sk_k sk ++ (rnd ++ u)) 64 in
    let t = attempts_good 1024 h p sk u r 0 pos in
    subst (λ s. T (verify h p pk ctx m s)) (sym t.2)
    (accepted h fair p (fit p one) sk pk u r t.0 (pk_rho h p (fit p one) xi ∙ sym (sk_rho_lem h p (fit p one) xi)) (key_parts h p (fit p one) xi) (s2_small h p (fit p one) xi) (is_good h p sk u r t.0 t.1) ctx m
    (ap (λ x. mu_of h x ctx m) (sk_tr_lem h p (fit p one) xi)) (pk_long h p (fit p one) xi) short)
