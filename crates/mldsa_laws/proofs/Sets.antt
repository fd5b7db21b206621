-- What the proofs ask of a set of parameters, and that each of the three has it.
use Rattle.std.proofs.Common.{◌≡◌, ℕ, suc, ◌+◌, ◌*◌, ◌^◌, ◌<◌, ◌≤◌, true, refl, inl, inr, mod-lt, arith, lit<, lit≤}
use Rattle.std.proofs.lemmas.Bool.{ltb-true}
use Rattle.standards.specs.MlDsaParts.{DsaSet, gamma1, beta, eta_bits, half_byte_fits, coeff_from_half_byte}
use Rattle.standards.specs.Promises.{OneDsa, d44, d65, d87}
use Rattle.algebra.proofs.Norms.{magnitude_cases}
use Rattle.mldsa_laws.proofs.BitPacking.{Tiny}

pub record Fit (p : DsaSet) : Type 0 where
  pub steps : ℕ
  pub gamma_pos : 0 < p.gamma2
  pub whole : 2 * p.gamma2 * suc steps + 1 ≡ 8380417
  pub tiny : (z : ℕ) → half_byte_fits p.eta z ≡ true → Tiny p.eta (coeff_from_half_byte p.eta z)
  pub eta_fits : 2 * p.eta < 2 ^ eta_bits p
  pub eta_small : 2 * p.eta < 8380417
  pub beta_small : 2 * beta p ≤ 8380417
  pub mask_bits : 2 * gamma1 p ≡ 2 ^ (p.gamma1_bits + 1)
  pub mask_small : 2 * gamma1 p < 8380417
  pub rows_pos : 0 < p.k
  pub hints_few : p.omega < 256

two : (z : ℕ) → half_byte_fits 2 z ≡ true → Tiny 2 (coeff_from_half_byte 2 z)
two z h = record { small = mod-lt _ (lit< tt); close = elim (magnitude_cases 8380417 (coeff_from_half_byte 2 z)) [ inl c ↦ omega arith | inr c ↦ omega arith ] }

four : (z : ℕ) → half_byte_fits 4 z ≡ true → Tiny 4 (coeff_from_half_byte 4 z)
four z h = record { small = mod-lt _ (lit< tt); close = elim (magnitude_cases 8380417 (coeff_from_half_byte 4 z)) [ inl c ↦ omega (arith, ltb-true z 9 h) | inr c ↦ omega (arith, ltb-true z 9 h) ] }

pub fit : (p : DsaSet) → OneDsa p → Fit p
fit p d44 = record { steps = 43; gamma_pos = lit< tt; whole = refl; tiny = two; eta_fits = lit< tt; eta_small = lit< tt; beta_small = lit≤ tt; mask_bits = refl; mask_small = lit< tt; rows_pos = lit< tt; hints_few = lit< tt }
fit p d65 = record { steps = 15; gamma_pos = lit< tt; whole = refl; tiny = four; eta_fits = lit< tt; eta_small = lit< tt; beta_small = lit≤ tt; mask_bits = refl; mask_small = lit< tt; rows_pos = lit< tt; hints_few = lit< tt }
fit p d87 = record { steps = 15; gamma_pos = lit< tt; whole = refl; tiny = two; eta_fits = lit< tt; eta_small = lit< tt; beta_small = lit≤ tt; mask_bits = refl; mask_small = lit< tt; rows_pos = lit< tt; hints_few = lit< tt }
