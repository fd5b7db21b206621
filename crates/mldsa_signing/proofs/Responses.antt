-- An attempt is its response to the challenge that it commits to.
use Rattle.std.proofs.Common.{◌≡◌, ℕ, ◌+◌, ◌≤◌, Bool, true, false, cond, List, sym, refl, ap, ◌∙◌}
use Rattle.std.proofs.lemmas.Bool.{leb-true}
use Rattle.standards.specs.Lists.{tables}
use Rattle.standards.specs.Hashes.{Hashes}
use Rattle.standards.specs.MlDsaParts.{DsaSet, ntt, sample_in_ball, expand_mask, hint_count}
use Rattle.standards.specs.MlDsa.{attempt, or_else}
use Rattle.mldsa_laws.specs.Steps.{y_step, w_step, c_step, challenge_step, z_step, v_step, ct_step, hint_step, few_hints}
use Rattle.mldsa_laws.proofs.AttemptSteps.{Ran, ran_well, ran_badly}
use Rattle.mldsa_signing.specs.Responses.{response_good, response_bytes}

-- the test that the hint has few enough ones
pub few_is : (p : DsaSet) (hs : List (List ℕ)) → few_hints p hs ≡ true → hint_count hs ≤ p.omega
unfolding few_hints
few_is p hs e = leb-true (hint_count hs) p.omega e

-- the masks, where they are as many as the set asks
pub y_is : (h : Hashes) (p : DsaSet) (r : List ℕ) (kappa n : ℕ) (y : List (List ℕ)) → n ≡ p.l → y ≡ tables n (λ i. expand_mask h p r (kappa + i)) → y ≡ y_step h p r kappa
unfolding y_step
y_is h p r kappa n y long is = is ∙ ap (λ m. tables m (λ i. expand_mask h p r (kappa + i))) long

-- the challenge, transformed
pub cn_is : (h : Hashes) (p : DsaSet) (c cn : List ℕ) → cn ≡ ntt (sample_in_ball h p c) → cn ≡ challenge_step h p c
unfolding challenge_step
cn_is h p c cn is = is

module _ (h : Hashes) (p : DsaSet) (sk m r : List ℕ) (kappa : ℕ) (y w : List (List ℕ)) (c cn : List ℕ) where
  -- the steps after the challenge, taken as they are
  ran : y ≡ y_step h p r kappa → w ≡ w_step h p sk y → c ≡ c_step h p m w → cn ≡ challenge_step h p c →
      Ran h p sk m r kappa y w c cn (z_step p sk y cn) (v_step p sk w cn) (ct_step p sk cn) (hint_step p (v_step p sk w cn) (ct_step p sk cn))
  ran ey ew ec en = record { y_is = ey; w_is = ew; c_is = ec; cn_is = en; z_is = refl; v_is = refl; ct_is = refl; hs_is = refl }

  -- good where the response is, and its bytes are the response's
  pub attempt_is : (good : Bool) (sig old : List ℕ) → y ≡ y_step h p r kappa → w ≡ w_step h p sk y → c ≡ c_step h p m w → cn ≡ challenge_step h p c →
      good ≡ response_good p sk y w cn → sig ≡ cond good (response_bytes p sk y w c cn) old →
      (good ≡ (attempt h p sk m r kappa).good) × (sig ≡ or_else (attempt h p sk m r kappa) old)
  unfolding response_good response_bytes
  attempt_is true sig old ey ew ec en good is = ran_well h p sk m r kappa y w c cn _ _ _ _ (ran ey ew ec en) sig old (sym good) is
  attempt_is false sig old ey ew ec en good is =
      let bad = ran_badly h p sk m r kappa y w c cn _ _ _ _ (ran ey ew ec en) old (sym good) in
      (bad.0, is ∙ bad.1)
