-- Which numbers a set may have: those that are within the code's arrays and widths. The eta of ML-KEM has its fact in its type.
use Rattle.std.specs.Prelude.{◌≡◌, ℕ, ◌<◌, ◌≤◌, ◌⊎◌, T, eqb}
use Rattle.std.specs.Coded.{Coded-set, coded_ℕ}
use Rattle.std.proofs.Common.{inl, inr, sym, ap, ◌∙◌, subst}

pub record KemShape (k du dv : ℕ) : Type 0 where
  pub some : 0 < k
  pub few : k ≤ 4
  pub du_low : 10 ≤ du
  pub du_high : du ≤ 11
  pub dv_low : 4 ≤ dv
  pub dv_high : dv ≤ 5

pub record DsaShape (k l eta tau lambda gamma1_bits gamma2 omega : ℕ) : Type 0 where
  pub k_some : 0 < k
  pub k_few : k ≤ 8
  pub l_some : 0 < l
  pub l_few : l ≤ 7
  pub eta_is : (eta ≡ 2) ⊎ (eta ≡ 4)
  pub tau_few : tau ≤ 60
  pub lambda_few : lambda ≤ 256
  pub bits_is : (gamma1_bits ≡ 17) ⊎ (gamma1_bits ≡ 19)
  pub gamma2_is : (gamma2 ≡ 95232) ⊎ (gamma2 ≡ 261888)
  pub omega_few : omega ≤ 80

-- A fact of a type has one proof at most; so has a choice between two numbers that differ.
two_prop : (x a b : ℕ) → (a ≡ b → ⊥) → IsProp ((x ≡ a) ⊎ (x ≡ b))
two_prop x a b differ (inl p) (inl q) = ap inl (Coded-set coded_ℕ x a p q)
two_prop x a b differ (inl p) (inr q) = absurd (differ (sym p ∙ q))
two_prop x a b differ (inr p) (inl q) = absurd (differ (sym q ∙ p))
two_prop x a b differ (inr p) (inr q) = ap inr (Coded-set coded_ℕ x b p q)

pub eta_prop : (x : ℕ) → IsProp ((x ≡ 2) ⊎ (x ≡ 4))
eta_prop x = two_prop x 2 4 (λ e. subst (λ n. T (eqb n 2)) e tt)

pub bits_prop : (x : ℕ) → IsProp ((x ≡ 17) ⊎ (x ≡ 19))
bits_prop x = two_prop x 17 19 (λ e. subst (λ n. T (eqb n 17)) e tt)

pub gamma2_prop : (x : ℕ) → IsProp ((x ≡ 95232) ⊎ (x ≡ 261888))
gamma2_prop x = two_prop x 95232 261888 (λ e. subst (λ n. T (eqb n 95232)) e tt)
