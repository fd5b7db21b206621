-- Verifying is its steps, and two tests decide the verdict where the others pass.
use Rattle.std.proofs.Common.{◌≡◌, ℕ, ◌+◌, ◌-◌, ◌*◌, ◌/◌, ◌≤◌, Bool, true, false, ◌&&◌, eqb, ltb, leb, List, [], ◌∷◌, ◌++◌, length, take, bytes_eq, sym, refl, ap, ◌∙◌, ap₂, arith}
use Rattle.std.proofs.lemmas.List.{append-nil}
use Rattle.std.proofs.lemmas.Bool.{true≢false, eq-eqb, le-leb}
use Rattle.standards.specs.Lists.{tables, row_at, same}
use Rattle.standards.specs.Ring.{sub_p, sum_p, norms}
use Rattle.standards.specs.Hashes.{Hashes, shake256_bytes}
use Rattle.standards.specs.MlDsaParts.{DsaSet, q, gamma1, beta, w1_encode, sample_in_ball, expand_a, use_hint_p, ntt, ntt_inv, multiply_ntt}
use Rattle.standards.specs.MlDsa.{mu_of, pk_length, sig_length, z_of, hints_rise, hint_padding_zero, hint_row, verify}
use Rattle.algebra.specs.RowArrays.{RowsAre}
use Rattle.algebra.proofs.PolySums.{sum_p-same}
use Rattle.algebra.proofs.Rows.{row_at_lem, tables-same}
use Rattle.mldsa_laws.specs.Steps.{entry_at}
use Rattle.mldsa_laws.proofs.AttemptSteps.{matrix_row}
use Rattle.mldsa_verifying.specs.Steps.{t1_hat, w_row, w_step, is_commitment_hash}

-- equality of slices is that of the text
equal_is : (xs ys : List ℕ) → bytes_eq xs ys ≡ same xs ys
unfolding same
equal_is [] [] = refl
equal_is [] (y ∷ ys) = refl
equal_is (x ∷ xs) [] = refl
equal_is (x ∷ xs) (y ∷ ys) = ap (λ b. eqb x y && b) (equal_is xs ys)

pub commitment_hash_is : (h : Hashes) (p : DsaSet) (pk ctx m : List ℕ) (w1 : List (List ℕ)) (c tr mu again : List ℕ) (n : ℕ) (b : Bool) →
    tr ≡ shake256_bytes h (pk ++ []) 64 → mu ≡ mu_of h tr ctx m → n ≡ p.lambda / 4 → again ≡ shake256_bytes h (mu ++ w1_encode p w1) n → b ≡ bytes_eq c again →
    b ≡ is_commitment_hash h p pk ctx m w1 c
unfolding is_commitment_hash
commitment_hash_is h p pk ctx m w1 c tr mu again n b et em en ea eb =
    let tr_is : tr ≡ shake256_bytes h pk 64 = et ∙ ap (λ x. shake256_bytes h x 64) (append-nil pk) in
    let mu_is : mu ≡ mu_of h (shake256_bytes h pk 64) ctx m = em ∙ ap (λ x. mu_of h x ctx m) tr_is in
    eb ∙ (equal_is c again ∙ ap (same c) (ea ∙ ap₂ (λ x k. shake256_bytes h (x ++ w1_encode p w1) k) mu_is en))

-- entries that stand one after the other
pub in_turn : (l first : ℕ) (a zn : List (List ℕ)) →
    sum_p q l (λ j. multiply_ntt (row_at a (first + 1 * j)) (row_at zn j)) ≡ sum_p q l (λ j. multiply_ntt (row_at a (first + j)) (row_at zn j))
in_turn l first a zn = sum_p-same q l _ _ (λ j _. ap (λ k. multiply_ntt (row_at a k) (row_at zn j)) {x = first + 1 * j} {y = first + j} (omega arith))

-- w' of what the code holds
pub w_is : (h : Hashes) (p : DsaSet) (pk c rho cn : List ℕ) (a zn w : List (List ℕ)) →
    rho ≡ take 32 pk → cn ≡ ntt (sample_in_ball h p c) → RowsAre (p.k * p.l) (entry_at h p.l rho) a → w ≡ tables p.k (w_row p.l pk a cn zn) → w ≡ w_step h p pk c zn
unfolding w_step
w_is h p pk c rho cn a zn w er ec ea ew =
    ew ∙ tables-same p.k _ _ (λ i hi. ap ntt_inv (ap₂ (sub_p q)
    (matrix_row h p.k p.l rho a zn ea i hi ∙ ap (λ x. sum_p q p.l (λ j. multiply_ntt (expand_a h x i j) (row_at zn j))) er)
    (ap (λ x. multiply_ntt x (t1_hat pk i)) ec)))

-- the shape alone: where the tests before them pass, the last two decide
last_two : (a b c d e f g : Bool) → a ≡ true → b ≡ true → c ≡ true → true ≡ d && e → (a && b && c && d && e && f && g) ≡ f && g
last_two a b c true true f g ea eb ec h = rw (ea, eb, ec) refl
last_two a b c true false f g ea eb ec h = absurd (true≢false h)
last_two a b c false e f g ea eb ec h = absurd (true≢false h)

module _ (h : Hashes) (p : DsaSet) (pk ctx m s : List ℕ) where
  abbrev c_of : List ℕ
  c_of = take (p.lambda / 4) s

  abbrev w_of : List (List ℕ)
  w_of = w_step h p pk c_of (tables p.l (λ i. ntt (z_of p s i)))

  abbrev w1_of : List (List ℕ)
  w1_of = tables p.k (λ i. use_hint_p p.gamma2 (hint_row p s i) (row_at w_of i))

  abbrev is_short : Bool
  is_short = ltb (norms q (tables p.l (z_of p s))) (gamma1 p - beta p)

  abbrev is_hash : Bool
  is_hash = is_commitment_hash h p pk ctx m w1_of c_of

  -- verifying is its steps
  steps : (eqb (length s) (sig_length p) && eqb (length pk) (pk_length p) && leb (length ctx) 255 && hints_rise p s p.k && hint_padding_zero p s && is_short && is_hash) ≡ verify h p pk ctx m s
  unfolding w_step is_commitment_hash
  steps = refl

  -- where the hint is as it has to be and the numbers of z are small, the commitment hash of what the code holds decides
  pub verdict_is : (hs z zn w w1 : List (List ℕ)) (c : List ℕ) (k l g : ℕ) (b : Bool) → k ≡ p.k → l ≡ p.l → g ≡ p.gamma2 →
      length pk ≡ pk_length p → length ctx ≤ 255 → length s ≡ sig_length p → true ≡ hints_rise p s p.k && hint_padding_zero p s → true ≡ is_short →
      hs ≡ tables p.k (hint_row p s) → z ≡ tables p.l (z_of p s) → zn ≡ tables l (λ i. ntt (row_at z i)) → c ≡ c_of → w ≡ w_step h p pk c zn →
      w1 ≡ tables k (λ i. use_hint_p g (row_at hs i) (row_at w i)) → b ≡ is_commitment_hash h p pk ctx m w1 c → b ≡ verify h p pk ctx m s
  verdict_is hs z zn w w1 c k l g b nk nl ng key few long hints short eh ez en ec ew e1 eb =
      let zn_is : zn ≡ tables p.l (λ i. ntt (z_of p s i)) =
      en ∙ (ap (λ n. tables n (λ i. ntt (row_at z i))) nl ∙ tables-same p.l _ _ (λ i h. ap ntt (ap (λ x. row_at x i) ez ∙ row_at_lem p.l (z_of p s) i h))) in
      let w_same : w ≡ w_of = ew ∙ ap₂ (w_step h p pk) ec zn_is in
      let w1_is : w1 ≡ w1_of =
      e1 ∙ (ap₂ (λ n x. tables n (λ i. use_hint_p x (row_at hs i) (row_at w i))) nk ng ∙
      tables-same p.k _ _ (λ i h. ap₂ (use_hint_p p.gamma2) (ap (λ x. row_at x i) eh ∙ row_at_lem p.k (hint_row p s) i h) (ap (λ x. row_at x i) w_same))) in
      let hash : b ≡ is_hash = eb ∙ ap₂ (is_commitment_hash h p pk ctx m) w1_is ec in
      hash ∙ (ap (λ x. x && is_hash) short ∙ (sym (last_two _ _ _ _ _ _ _ (eq-eqb _ _ long) (eq-eqb _ _ key) (le-leb _ _ few) hints) ∙ steps))
