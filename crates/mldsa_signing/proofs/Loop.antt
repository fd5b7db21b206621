-- The loop of attempts, 1,024 of them at most.
use Rattle.std.proofs.Common.{◌≡◌, ℕ, ◌+◌, ◌-◌, ◌*◌, ◌<◌, Bool, true, false, cond, eqb, List, length, sym, ap, ◌∙◌, arith}
use Rattle.std.proofs.lemmas.Bool.{cond-false}
use Rattle.standards.specs.Hashes.{Hashes}
use Rattle.standards.specs.MlDsaParts.{DsaSet}
use Rattle.standards.specs.MlDsa.{Attempt, attempt, or_else, attempts}
use Rattle.mldsa_laws.proofs.AttemptSteps.{attempts_more, attempts_good, attempts_out, some_verdict}

-- 6, no attempt was good, if there are no bytes
abbrev verdict : List ℕ → ℕ
verdict bs = cond (eqb (length bs) 0) 6 0

module _ (h : Hashes) (p : DsaSet) (sk m r : List ℕ) (n : ℕ) (old end : List ℕ) (left : attempts (1024 - n) h p sk m r (n * p.l) ≡ end) where
  -- attempt n is good
  pub loop_good : (good : Bool) (sig : List ℕ) → n < 1024 → 0 < length sig → good ≡ (attempt h p sk m r (n * p.l)).good → good ≡ true → sig ≡ or_else (attempt h p sk m r (n * p.l)) old →
      (◌≡◌ {A = ℕ} 0 (verdict end)) × (sig ≡ end)
  loop_good good sig l some answer is_true bytes =
      let is : sig ≡ end = bytes ∙ attempts_good h p sk m r 1024 n (n * p.l) end old l (sym answer ∙ is_true) left in
      (some_verdict sig some ∙ ap verdict is, is)

  -- it is not
  pub loop_more : (good : Bool) (sig : List ℕ) → n < 1024 → good ≡ (attempt h p sk m r (n * p.l)).good → good ≡ false → sig ≡ or_else (attempt h p sk m r (n * p.l)) old →
      (sig ≡ old) × (attempts (1024 - (n + 1)) h p sk m r ((n + 1) * p.l) ≡ end)
  loop_more good sig l answer is_false bytes =
      let a : Attempt = attempt h p sk m r (n * p.l) in
      let onward : (n + 1) * p.l ≡ n * p.l + p.l = omega arith in
      (bytes ∙ cond-false a.good a.bytes old (sym answer ∙ is_false), ap (attempts (1024 - (n + 1)) h p sk m r) onward ∙ attempts_more h p sk m r 1024 n (n * p.l) end l (sym answer ∙ is_false) left)

  -- none is left
  pub loop_out : n ≡ 1024 → ◌≡◌ {A = ℕ} 6 (verdict end)
  loop_out l = sym (ap verdict (attempts_out h p sk m r 1024 n (n * p.l) end l left))
