-- The code's sets and refusals, as the standards' text has them.
use Rattle.std.specs.Prelude.{◌≡◌, if◌then◌else◌, ℕ, Ok, Err, Result, MatchResult}
use Rattle.standards.specs.Calls.{is_set}
use Rattle.standards.specs.MlKemParts.{KemSet as KemNumbers}
use Rattle.standards.specs.MlDsaParts.{DsaSet as DsaNumbers}
use Rattle.sets.specs.declared.types.KemSet.{KemSet}
use Rattle.sets.specs.declared.types.DsaSet.{DsaSet}
use Rattle.sets.specs.declared.types.Refusal.{Refusal}
use Rattle.sets.specs.declared.types.Refusal.TheVariants.{NoSet, Length, Key, Draw, Context, Attempts}

-- the numbers of a set
abbrev pub kem_numbers : KemSet → KemNumbers
kem_numbers p = record { k = p.k; eta1 = p.eta1.value; eta2 = p.eta2.value; du = p.du.bits; dv = p.dv.bits }

abbrev pub dsa_numbers : DsaSet → DsaNumbers
dsa_numbers p =
    record { k = p.k; l = p.l; eta = p.eta; tau = p.tau; lambda = p.lambda; gamma1_bits = p.gamma1_bits; gamma2 = p.gamma2; omega = p.omega }

-- the number of a refusal
abbrev pub number_of : Refusal → ℕ
number_of NoSet = 1
number_of Length = 2
number_of Key = 3
number_of Draw = 4
number_of Context = 5
number_of Attempts = 6

-- 0, or the refusal's number
abbrev pub verdict_of : {X : Type 0} → Result X Refusal → ℕ
verdict_of (Ok x) = 0
verdict_of (Err e) = number_of e

-- what the number of a set gives: a set of which `Is` holds, or the refusal 1
pub record GivesSet {P : Type 0} (Is : P → Type 0) (n : ℕ) (r : Result P Refusal) : Type 0 where
  pub set : MatchResult r Is (λ e. number_of e ≡ 1)
  pub verdict : verdict_of r ≡ (if is_set n then 0 else 1)
