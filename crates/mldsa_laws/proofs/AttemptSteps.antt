-- An attempt is its steps, and signing is a loop of attempts.
use Rattle.std.proofs.Common.{◌≡◌, ℕ, suc, ◌+◌, ◌-◌, ◌*◌, ◌%◌, ◌<◌, Bool, true, false, cond, ◌&&◌, eqb, List, [], length, sym, refl, ap, ◌∙◌, ap₂, arith}
use Rattle.std.proofs.lemmas.Nat.{mul-add-lt, mod-mul-add, div-mul-add}
use Rattle.std.proofs.lemmas.Bool.{cond-true, cond-false, ne_eqb}
use Rattle.standards.specs.Lists.{tables, at, row_at}
use Rattle.standards.specs.Ring.{sum_p}
use Rattle.standards.specs.Hashes.{Hashes}
use Rattle.standards.specs.MlDsaParts.{DsaSet, ntt, ntt_inv, multiply_ntt, expand_a}
use Rattle.standards.specs.MlDsa.{sk_rho, attempt, or_else, attempts}
use Rattle.algebra.specs.RowArrays.{RowsAre}
use Rattle.algebra.proofs.PolySums.{sum_p-same}
use Rattle.algebra.proofs.Rows.{tables-same}
use Rattle.algebra.proofs.Tables.{at_table, table_same}
use Rattle.mldsa_laws.specs.Steps.{padded, entry_at, y_step, w_step, c_step, challenge_step, z_step, v_step, ct_step, hint_step, z_short, v_short, ct_short, few_hints, sig_encode}

abbrev pub all_good : DsaSet → List (List ℕ) → List (List ℕ) → List (List ℕ) → List (List ℕ) → Bool
all_good p z v ct hs = z_short p z && v_short p v && ct_short p ct && few_hints p hs

module _ (h : Hashes) (p : DsaSet) (sk m r : List ℕ) (kappa : ℕ) where
  abbrev y : List (List ℕ)
  y = y_step h p r kappa

  abbrev w : List (List ℕ)
  w = w_step h p sk y

  abbrev c : List ℕ
  c = c_step h p m w

  abbrev cn : List ℕ
  cn = challenge_step h p c

  abbrev z : List (List ℕ)
  z = z_step p sk y cn

  abbrev v : List (List ℕ)
  v = v_step p sk w cn

  abbrev ct : List (List ℕ)
  ct = ct_step p sk cn

  abbrev hs : List (List ℕ)
  hs = hint_step p v ct

  good_is : all_good p z v ct hs ≡ (attempt h p sk m r kappa).good
  unfolding y_step w_step c_step challenge_step z_step v_step ct_step hint_step z_short v_short ct_short few_hints
  good_is = refl

  bytes_is : sig_encode p c z hs ≡ (attempt h p sk m r kappa).bytes
  unfolding y_step w_step c_step challenge_step z_step v_step ct_step hint_step sig_encode
  bytes_is = refl

-- the same over what the code holds after each step
pub record Ran (h : Hashes) (p : DsaSet) (sk m r : List ℕ) (kappa : ℕ) (y w : List (List ℕ)) (c cn : List ℕ) (z v ct hs : List (List ℕ)) : Type 0 where
  pub y_is : y ≡ y_step h p r kappa
  pub w_is : w ≡ w_step h p sk y
  pub c_is : c ≡ c_step h p m w
  pub cn_is : cn ≡ challenge_step h p c
  pub z_is : z ≡ z_step p sk y cn
  pub v_is : v ≡ v_step p sk w cn
  pub ct_is : ct ≡ ct_step p sk cn
  pub hs_is : hs ≡ hint_step p v ct

module _ (h : Hashes) (p : DsaSet) (sk m r : List ℕ) (kappa : ℕ) (y w : List (List ℕ)) (c cn : List ℕ) (z v ct hs : List (List ℕ)) (a : Ran h p sk m r kappa y w c cn z v ct hs) where
  ran_good : all_good p z v ct hs ≡ (attempt h p sk m r kappa).good
  ran_good = cc (good_is h p sk m r kappa)

  ran_bytes : sig_encode p c z hs ≡ (attempt h p sk m r kappa).bytes
  ran_bytes = cc (bytes_is h p sk m r kappa)

  -- what an attempt answers and leaves, where all of its tests pass, and where one does not
  pub ran_well : (sig old : List ℕ) → all_good p z v ct hs ≡ true → sig ≡ sig_encode p c z hs → (true ≡ (attempt h p sk m r kappa).good) × (sig ≡ or_else (attempt h p sk m r kappa) old)
  ran_well sig old good is = let g = sym good ∙ ran_good in (g, is ∙ (ran_bytes ∙ sym (cond-true _ _ _ (sym g))))

  pub ran_badly : (old : List ℕ) → all_good p z v ct hs ≡ false → (false ≡ (attempt h p sk m r kappa).good) × (old ≡ or_else (attempt h p sk m r kappa) old)
  ran_badly old bad = let g = sym bad ∙ ran_good in (g, sym (cond-false _ _ _ (sym g)))

pub all_same : {a b c d a' b' c' d' : Bool} → a ≡ a' → b ≡ b' → c ≡ c' → d ≡ d' → (a && b && c && d) ≡ (a' && b' && c' && d')
all_same p q r s = ap₂ (λ x y. x && y) (ap₂ (λ x y. x && y) (ap₂ (λ x y. x && y) p q) r) s

-- ---- the matrix as the code holds it
pub padded_product : (f g : List ℕ) → multiply_ntt (padded f) g ≡ multiply_ntt f g
padded_product f g = table_same 256 _ _ (λ i l. ap (λ x. (x * at g i) % 8380417) (at_table 256 (at f) i l))

pub entry_at_lem : (h : Hashes) (k l : ℕ) (rho : List ℕ) (a : List (List ℕ)) → RowsAre (k * l) (entry_at h l rho) a → (i j : ℕ) → i < k → j < l → row_at a (l * i + j) ≡ padded (expand_a h rho i j)
entry_at_lem h k l rho a are i j hi hj =
    let e : l * i + j ≡ i * l + j = omega arith in
    are (l * i + j) (omega (arith, mul-add-lt i l j k hi hj)) ∙ (ap (entry_at h l rho) e ∙ ap₂ (λ x y. padded (expand_a h rho x y)) (div-mul-add i l j hj) (mod-mul-add i l j hj))

-- a row of it times s
pub matrix_row : (h : Hashes) (k l : ℕ) (rho : List ℕ) (a s : List (List ℕ)) → RowsAre (k * l) (entry_at h l rho) a → (i : ℕ) → i < k →
    sum_p 8380417 l (λ j. multiply_ntt (row_at a (l * i + j)) (row_at s j)) ≡ sum_p 8380417 l (λ j. multiply_ntt (expand_a h rho i j) (row_at s j))
matrix_row h k l rho a s are i hi = sum_p-same 8380417 l _ _ (λ j hj. ap (λ x. multiply_ntt x (row_at s j)) (entry_at_lem h k l rho a are i j hi hj) ∙ padded_product (expand_a h rho i j) (row_at s j))

pub commit_is : (h : Hashes) (p : DsaSet) (sk : List ℕ) (a y : List (List ℕ)) → RowsAre (p.k * p.l) (entry_at h p.l (sk_rho sk)) a →
    tables p.k (λ i. ntt_inv (sum_p 8380417 p.l (λ j. multiply_ntt (row_at a (p.l * i + j)) (row_at (tables p.l (λ i. ntt (row_at y i))) j)))) ≡ w_step h p sk y
unfolding w_step
commit_is h p sk a y are = tables-same p.k _ _ (λ i hi. ap ntt_inv (matrix_row h p.k p.l (sk_rho sk) a (tables p.l (λ i. ntt (row_at y i))) are i hi))

-- ---- a loop of attempts, for any count
module _ (h : Hashes) (p : DsaSet) (sk m r : List ℕ) where
  none : (kappa : ℕ) → attempts 0 h p sk m r kappa ≡ []
  unfolding attempts
  none kappa = refl

  next : (n kappa : ℕ) → attempts (suc n) h p sk m r kappa ≡ or_else (attempt h p sk m r kappa) (attempts n h p sk m r (kappa + p.l))
  unfolding attempts
  next n kappa = refl

  -- one that was not good: one fewer is left, and what is lent is as it was
  pub attempts_more : (all seen kappa : ℕ) (end : List ℕ) → seen < all → (attempt h p sk m r kappa).good ≡ false →
      attempts (all - seen) h p sk m r kappa ≡ end → attempts (all - (seen + 1)) h p sk m r (kappa + p.l) ≡ end
  attempts_more all seen kappa end l bad e =
      let n : all - seen ≡ suc (all - (seen + 1)) = omega arith in
      sym (cond-false (attempt h p sk m r kappa).good (attempt h p sk m r kappa).bytes (attempts (all - (seen + 1)) h p sk m r (kappa + p.l)) bad) ∙
      (sym (next (all - (seen + 1)) kappa) ∙ (ap (λ i. attempts i h p sk m r kappa) (sym n) ∙ e))

  -- one that was good: its bytes are the answer
  pub attempts_good : (all seen kappa : ℕ) (end old : List ℕ) → seen < all → (attempt h p sk m r kappa).good ≡ true →
      attempts (all - seen) h p sk m r kappa ≡ end → or_else (attempt h p sk m r kappa) old ≡ end
  attempts_good all seen kappa end old l good e =
      let n : all - seen ≡ suc (all - (seen + 1)) = omega arith in
      let rest = attempts (all - (seen + 1)) h p sk m r (kappa + p.l) in
      cond-true (attempt h p sk m r kappa).good (attempt h p sk m r kappa).bytes old good ∙
      (sym (cond-true (attempt h p sk m r kappa).good (attempt h p sk m r kappa).bytes rest good) ∙
      (sym (next (all - (seen + 1)) kappa) ∙ (ap (λ i. attempts i h p sk m r kappa) (sym n) ∙ e)))

  -- none is left
  pub attempts_out : (all seen kappa : ℕ) (end : List ℕ) → seen ≡ all → attempts (all - seen) h p sk m r kappa ≡ end → end ≡ []
  attempts_out all seen kappa end l e =
      let n : all - seen ≡ 0 = omega arith in
      sym e ∙ (ap (λ i. attempts i h p sk m r kappa) n ∙ none kappa)

-- bytes are no refusal
pub some_verdict : (bs : List ℕ) → 0 < length bs → ◌≡◌ {A = ℕ} 0 (cond (eqb (length bs) 0) 6 0)
some_verdict bs h = sym (cond-false (eqb (length bs) 0) 6 0 (ne_eqb (length bs) 0 (λ e. omega arith)))
