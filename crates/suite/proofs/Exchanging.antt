-- An exchange by calls: what each answers, and the two keys.
use Rattle.std.proofs.Common.{◌≡◌, ℕ, true, eqb, T, List, if◌then◌else◌, ◌==◌, sym, ap, ◌∙◌}
use Rattle.standards.specs.Bytes.{Bytes}
use Rattle.standards.specs.Hashes.{Hashes, Fair}
use Rattle.standards.specs.MlKem.{matrix_drawn, rho_of, ek_rho, dk_length, text_length, check_ek, check_dk, ek_of, dk_of, encaps_key, encaps_text, decaps, noise_below_quarter}
use Rattle.standards.specs.Calls.{is_set, kem_of, kem_keys_verdict, encaps_verdict, decaps_verdict, after}
use Rattle.mlkem_laws.proofs.Exchange.{ek_rho_lem, ek_of_dk, exchanges_agree}
use Rattle.suite.specs.Verdicts.{first_refusal}
use Rattle.suite.proofs.Verdicts.{one_kem, made, length_only, never}

-- by keys of the seeds d and z that were made
module _ (h : Hashes) (fair : Fair h) (s : ℕ) (d z m : List ℕ) (bd : Bytes 32 d) (bz : Bytes 32 z) (bm : Bytes 32 m) (le ld : ℕ) (keys : 0 ≡ kem_keys_verdict h s d le ld) where
  there : is_set s ≡ true
  there = (made (is_set s) _ _ keys).0

  drawn : matrix_drawn h (kem_of s) (ek_rho (kem_of s) (ek_of h (kem_of s) d)) ≡ true
  drawn = ap (matrix_drawn h (kem_of s)) (ek_rho_lem h fair (kem_of s) d) ∙ (made (is_set s) _ (matrix_drawn h (kem_of s) (rho_of h (kem_of s) d)) keys).1

  agreed : (check_ek (kem_of s) (ek_of h (kem_of s) d) ≡ 0) × (check_dk h (kem_of s) (dk_of h (kem_of s) d z) (encaps_text h (kem_of s) (ek_of h (kem_of s) d) m) ≡ 0) × Bytes (dk_length (kem_of s)) (dk_of h (kem_of s) d z) ×
      (T (noise_below_quarter h (kem_of s) d z m) → decaps h (kem_of s) (dk_of h (kem_of s) d z) (encaps_text h (kem_of s) (ek_of h (kem_of s) d) m) ≡ encaps_key h (ek_of h (kem_of s) d) m)
  agreed = exchanges_agree h fair (kem_of s) (one_kem s) d z m bd bz bm

  pub encaps_answers : (ek : List ℕ) (lt v : ℕ) → ek ≡ ek_of h (kem_of s) d → v ≡ encaps_verdict h s ek lt →
      v ≡ first_refusal (kem_keys_verdict h s d le ld) (if lt == text_length (kem_of s) then 0 else 2)
  encaps_answers ek lt v e is =
      is ∙ (ap (λ x. encaps_verdict h s x lt) e ∙ (length_only (is_set s) (eqb lt (text_length (kem_of s))) _ (check_ek (kem_of s) (ek_of h (kem_of s) d)) there agreed.0 drawn ∙
      ap (λ n. first_refusal n (if lt == text_length (kem_of s) then 0 else 2)) keys))

  pub decaps_answers : (dk text : List ℕ) → dk ≡ dk_of h (kem_of s) d z → text ≡ encaps_text h (kem_of s) (ek_of h (kem_of s) d) m → decaps_verdict h s dk text ≡ 0
  decaps_answers dk text ed et =
      ap (λ x. decaps_verdict h s x text) ed ∙ (ap (decaps_verdict h s (dk_of h (kem_of s) d z)) et ∙
      never (is_set s) _ (check_dk h (kem_of s) (dk_of h (kem_of s) d z) (encaps_text h (kem_of s) (ek_of h (kem_of s) d) m)) there agreed.1
      (ap (λ x. matrix_drawn h (kem_of s) (ek_rho (kem_of s) x)) (ek_of_dk h fair (kem_of s) d z) ∙ drawn))

  -- what is sent, and what is got of it
  pub both_have : (ek dk text sent got old : List ℕ) (v : ℕ) → ek ≡ ek_of h (kem_of s) d → dk ≡ dk_of h (kem_of s) d z → sent ≡ encaps_key h ek m → text ≡ encaps_text h (kem_of s) ek m →
      v ≡ decaps_verdict h s dk text → got ≡ after v (decaps h (kem_of s) dk text) old → T (noise_below_quarter h (kem_of s) d z m) → got ≡ sent
  both_have ek dk text sent got old v ee ed es et ev eg quiet =
      let made_text = et ∙ ap (λ x. encaps_text h (kem_of s) x m) ee in
      let answers = ev ∙ decaps_answers dk text ed made_text in
      eg ∙ (ap (λ n. after n (decaps h (kem_of s) dk text) old) answers ∙ (ap (λ x. decaps h (kem_of s) x text) ed ∙ (ap (decaps h (kem_of s) (dk_of h (kem_of s) d z)) made_text ∙
      (agreed.3 quiet ∙ (ap (λ x. encaps_key h x m) (sym ee) ∙ sym es)))))
