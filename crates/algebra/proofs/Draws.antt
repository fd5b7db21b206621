-- Draws by rejection.
use Rattle.std.proofs.Common.{◌≡◌, ℕ, zero, suc, ◌+◌, ◌-◌, ◌<◌, ◌≤◌, T, Bool, true, cond, eqb, ltb, List, [], ◌∷◌, ◌++◌, length, take, replicate, sym, refl, ap, ◌∙◌, subst, ap₂, inl, inr, lt→ltb, arith}
use Rattle.std.proofs.lemmas.Bool.{cond_both, cond-true, cond-false, ne_eqb, cases_lt}
use Rattle.std.proofs.lemmas.List.{take_all, take-append-le, length-append, length-replicate, get_or_append_left, get_or-append_right, get_or-replicate, get_or_past}
use Rattle.standards.specs.Lists.{table, at, all_below}
use Rattle.standards.specs.Hashes.{draw}
use Rattle.algebra.specs.Draws.{accepted}
use Rattle.algebra.proofs.Tests.{from_both}
use Rattle.algebra.proofs.Tables.{is_table}

-- what holds of every candidate that passes holds of every number drawn
module _ (P : ℕ → Type 0) (none : P 0) where
  at-cons : (x : ℕ) (xs : List ℕ) → P x → ((k : ℕ) → P (at xs k)) → (k : ℕ) → P (at (x ∷ xs) k)
  at-cons x xs a h zero = a
  at-cons x xs a h (suc k) = h k

  module _ (ok : ℕ → Bool) (val : ℕ → ℕ) (each : (k : ℕ) → ok k ≡ true → P (val k)) where
    pub draw_all : (fuel k need n : ℕ) → P (at (draw ok val fuel k need) n)
    unfolding draw
    draw_all zero k need n = none
    draw_all (suc fuel) k need n =
        cond_both (eqb need 0) [] _ (λ ys. P (at ys n)) (λ _. none)
        (λ _. cond_both (ok k) (val k ∷ draw ok val fuel (k + 1) (need - 1)) (draw ok val fuel (k + 1) need) (λ ys. P (at ys n))
        (λ e. at-cons (val k) (draw ok val fuel (k + 1) (need - 1)) (each k e) (draw_all fuel (k + 1) (need - 1)) n) (λ _. draw_all fuel (k + 1) need n))

-- numbers below q, where each candidate that passes is one
pub draw_below : (q : ℕ) (ok : ℕ → Bool) (val : ℕ → ℕ) → ((k : ℕ) → ok k ≡ true → val k < q) → (fuel k need : ℕ) → T (all_below q (draw ok val fuel k need))
unfolding draw all_below
draw_below q ok val each zero k need = tt
draw_below q ok val each (suc fuel) k need =
    let more = draw ok val fuel (k + 1) (need - 1) in
    cond_both (eqb need 0) [] _ (λ ys. T (all_below q ys)) (λ _. tt)
    (λ _. cond_both (ok k) (val k ∷ more) (draw ok val fuel (k + 1) need) (λ ys. T (all_below q ys))
    (λ e. from_both (ltb (val k) q) (all_below q more) (lt→ltb (val k) q (each k e)) (draw_below q ok val each fuel (k + 1) (need - 1))) (λ _. draw_below q ok val each fuel (k + 1) need))

-- ---- a draw takes the first of all candidates that pass
pub draw-take : (ok : ℕ → Bool) (val : ℕ → ℕ) (fuel k need : ℕ) → draw ok val fuel k need ≡ take need (accepted ok val fuel k)
unfolding draw accepted
draw-take ok val zero k zero = refl
draw-take ok val zero k (suc m) = refl
draw-take ok val (suc fuel) k zero = refl
draw-take ok val (suc fuel) k (suc m) =
    let rest = accepted ok val fuel (k + 1) in
    cond-false (eqb (suc m) 0) [] _ (ne_eqb (suc m) 0 (λ e. omega arith)) ∙
    cond_both (ok k) (val k ∷ rest) rest (λ ys. cond (ok k) (val k ∷ draw ok val fuel (k + 1) (suc m - 1)) (draw ok val fuel (k + 1) (suc m)) ≡ take (suc m) ys)
    (λ e. cond-true (ok k) _ _ e ∙ ap (λ ys. val k ∷ ys) (ap (draw ok val fuel (k + 1)) {x = suc m - 1} {y = m} (omega arith) ∙ draw-take ok val fuel (k + 1) m))
    (λ e. cond-false (ok k) _ _ e ∙ draw-take ok val fuel (k + 1) (suc m))

-- more candidates
pub accepted_add : (ok : ℕ → Bool) (val : ℕ → ℕ) (a b k : ℕ) → accepted ok val (a + b) k ≡ accepted ok val a k ++ accepted ok val b (k + a)
unfolding accepted
accepted_add ok val zero b k =
    ap (λ n. accepted ok val n k) {x = 0 + b} {y = b} (omega arith) ∙ ap (accepted ok val b) {x = k} {y = k + 0} (omega arith)
accepted_add ok val (suc a) b k =
    let more : accepted ok val (a + b) (k + 1) ≡ accepted ok val a (k + 1) ++ accepted ok val b (k + suc a) =
    accepted_add ok val a b (k + 1) ∙ ap (λ n. accepted ok val a (k + 1) ++ accepted ok val b n) {x = k + 1 + a} {y = k + suc a} (omega arith) in
    ap (λ n. accepted ok val n k) {x = suc a + b} {y = suc (a + b)} (omega arith) ∙
    cond_both (ok k) (val k ∷ accepted ok val a (k + 1)) (accepted ok val a (k + 1)) (λ ys. cond (ok k) (val k ∷ accepted ok val (a + b) (k + 1)) (accepted ok val (a + b) (k + 1)) ≡ ys ++ accepted ok val b (k + suc a))
    (λ e. cond-true (ok k) _ _ e ∙ ap (λ ys. val k ∷ ys) more) (λ e. cond-false (ok k) _ _ e ∙ more)

-- the same candidates, counted otherwise
pub accepted-same : (ok ok' : ℕ → Bool) (val val' : ℕ → ℕ) (n k k' : ℕ) → ((i : ℕ) → i < n → ok (k + i) ≡ ok' (k' + i)) → ((i : ℕ) → i < n → val (k + i) ≡ val' (k' + i)) → accepted ok val n k ≡ accepted ok' val' n k'
unfolding accepted
accepted-same ok ok' val val' zero k k' a b = refl
accepted-same ok ok' val val' (suc n) k k' a b =
    let o : ok k ≡ ok' k' = subst (λ x. ok x ≡ ok' (k' + 0)) {x = k + 0} {y = k} (omega arith) (a 0 (omega arith)) ∙ ap ok' {x = k' + 0} {y = k'} (omega arith) in
    let v : val k ≡ val' k' = subst (λ x. val x ≡ val' (k' + 0)) {x = k + 0} {y = k} (omega arith) (b 0 (omega arith)) ∙ ap val' {x = k' + 0} {y = k'} (omega arith) in
    let rest : accepted ok val n (k + 1) ≡ accepted ok' val' n (k' + 1) =
    accepted-same ok ok' val val' n (k + 1) (k' + 1) (λ i l. ap ok {x = k + 1 + i} {y = k + suc i} (omega arith) ∙ (a (suc i) (omega arith) ∙ ap ok' {x = k' + suc i} {y = k' + 1 + i} (omega arith)))
    (λ i l. ap val {x = k + 1 + i} {y = k + suc i} (omega arith) ∙ (b (suc i) (omega arith) ∙ ap val' {x = k' + suc i} {y = k' + 1 + i} (omega arith))) in
    ap₂ (λ t x. cond t (x ∷ accepted ok val n (k + 1)) (accepted ok val n (k + 1))) o v ∙ ap (λ r. cond (ok' k') (val' k' ∷ r) r) rest

pub length-accepted : (ok : ℕ → Bool) (val : ℕ → ℕ) (n k : ℕ) → length (accepted ok val n k) ≤ n
unfolding accepted
length-accepted ok val zero k = omega arith
length-accepted ok val (suc n) k =
    let h = length-accepted ok val n (k + 1) in
    cond_both (ok k) (val k ∷ accepted ok val n (k + 1)) (accepted ok val n (k + 1)) (λ ys. length ys ≤ suc n) (λ _. omega arith) (λ _. omega arith)

-- ---- the end of a draw
-- where as many passed as are needed, the draw is full, whatever comes after
pub draw_full : (ok : ℕ → Bool) (val : ℕ → ℕ) (fuel seen need : ℕ) → seen ≤ fuel → need ≤ length (accepted ok val seen 0) → take need (accepted ok val seen 0) ≡ draw ok val fuel 0 need
draw_full ok val fuel seen need hs hn =
    let all = accepted ok val seen 0 in
    let rest = accepted ok val (fuel - seen) (0 + seen) in
    sym (draw-take ok val fuel 0 need ∙
    (ap (λ n. take need (accepted ok val n 0)) {x = fuel} {y = seen + (fuel - seen)} (omega arith) ∙
    (ap (take need) (accepted_add ok val seen (fuel - seen) 0) ∙ take-append-le need all rest hn)))

-- where all were looked at and too few passed, they are all that is drawn
pub draw_out : (ok : ℕ → Bool) (val : ℕ → ℕ) (fuel need : ℕ) → length (accepted ok val fuel 0) < need → accepted ok val fuel 0 ≡ draw ok val fuel 0 need
draw_out ok val fuel need h =
    let all = accepted ok val fuel 0 in
    sym (draw-take ok val fuel 0 need ∙ take_all need all (omega arith))

-- noughts in the empty places
pub padded : (n : ℕ) (xs : List ℕ) → length xs ≤ n → xs ++ replicate (n - length xs) 0 ≡ table n (at xs)
padded n xs h =
    let pad : List ℕ = replicate (n - length xs) 0 in
    is_table n (at xs) (xs ++ pad) (omega (arith, length-append xs pad, length-replicate {A = ℕ} (n - length xs) 0))
    (λ k l. elim (cases_lt k (length xs)) [
      | inl a ↦ get_or_append_left xs pad 0 k a
      | inr a ↦ get_or-append_right xs pad (length xs) k 0 refl a ∙ (get_or-replicate (n - length xs) (k - length xs) 0 0 (omega arith) ∙ sym (get_or_past xs k 0 a))
    ])
