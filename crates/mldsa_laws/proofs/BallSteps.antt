-- SampleInBall step by step, from a reader of the stream.
use Rattle.std.proofs.Common.{◌≡◌, ℕ, zero, suc, ◌+◌, ◌-◌, ◌*◌, ◌/◌, ◌%◌, ◌^◌, ◌<◌, ◌≤◌, cond, eqb, leb, ◌⊎◌, List, set, sym, refl, ap, ◌∙◌, ap₂, inl, inr, add_assoc, arith}
use Rattle.std.proofs.Math.Path.{fun_ext}
use Rattle.std.proofs.lemmas.Bool.{cond-true, cond-false, cond_both, le-leb, lt-leb, eq-eqb, ne_eqb, cases_eq}
use Rattle.standards.specs.Lists.{table, at}
use Rattle.standards.specs.MlDsaParts.{first_at_most, ball_steps}
use Rattle.algebra.proofs.Tables.{at_table}

-- ---- the first byte that is at most i, among `all`
-- a byte v that is larger: look at the next
pub first_next : (s : ℕ → ℕ) (all seen i v goal : ℕ) → seen < all → v ≡ s seen → i < v → first_at_most (all - seen) seen i s ≡ goal → first_at_most (all - (seen + 1)) (seen + 1) i s ≡ goal
unfolding first_at_most
first_next s all seen i v goal h is big e =
    sym (cond-false (leb (s seen) i) seen (first_at_most (all - (seen + 1)) (seen + 1) i s) (ap (λ x. leb x i) (sym is) ∙ lt-leb v i big)) ∙
    (ap (λ k. first_at_most k seen i s) {x = suc (all - (seen + 1))} {y = all - seen} (omega arith) ∙ e)

hit : (s : ℕ → ℕ) (k seen i : ℕ) → s seen ≤ i → first_at_most k seen i s ≡ seen
unfolding first_at_most
hit s zero seen i h = refl
hit s (suc k) seen i h = cond-true _ _ _ (le-leb (s seen) i h)

out : (s : ℕ → ℕ) (seen i : ℕ) → first_at_most 0 seen i s ≡ seen
unfolding first_at_most
out s seen i = refl

-- one that is not, or the byte after all
pub first_found : (s : ℕ → ℕ) (all seen i v goal : ℕ) → v ≡ s seen → (v ≤ i) ⊎ (all ≤ seen) → first_at_most (all - seen) seen i s ≡ goal → goal ≡ seen
first_found s all seen i v goal is (inl small) e = sym e ∙ hit s (all - seen) seen i (omega arith)
first_found s all seen i v goal is (inr last) e =
    sym e ∙ (ap (λ k. first_at_most k seen i s) {x = all - seen} {y = 0} (omega arith) ∙ out s seen i)

-- counted from where the stream was read up to
first_shift : (s : ℕ → ℕ) (pos i fuel k : ℕ) → first_at_most fuel (pos + k) i s ≡ pos + first_at_most fuel k i (λ n. s (pos + n))
unfolding first_at_most
first_shift s pos i zero k = refl
first_shift s pos i (suc fuel) k =
    cond_both (leb (s (pos + k)) i) k (first_at_most fuel (k + 1) i (λ n. s (pos + n))) (λ v. cond (leb (s (pos + k)) i) (pos + k) (first_at_most fuel (pos + k + 1) i s) ≡ pos + v)
    (λ t. cond-true _ _ _ t) (λ t. cond-false _ _ _ t ∙ (ap (λ m. first_at_most fuel m i s) (add_assoc pos k 1) ∙ first_shift s pos i fuel (k + 1)))

first_at : (s : ℕ → ℕ) (pos i fuel : ℕ) → pos + first_at_most fuel 0 i (λ n. s (pos + n)) ≡ first_at_most fuel pos i s
first_at s pos i fuel = sym (first_shift s pos i fuel 0) ∙ ap (λ m. first_at_most fuel m i s) {x = pos + 0} {y = pos} (omega arith)

-- ---- the steps
steps_more : (n t pos : ℕ) (s : ℕ → ℕ) (c : List ℕ) →
    ball_steps (suc n) t pos s c ≡ ball_steps n (t + 1) (first_at_most 1024 pos (256 - suc n) s + 1) s
    (set (set c (256 - suc n) (at c (s (first_at_most 1024 pos (256 - suc n) s)))) (s (first_at_most 1024 pos (256 - suc n) s)) (cond (eqb ((s (t / 8) / 2 ^ (t % 8)) % 2) 1) 8380416 1))
unfolding ball_steps
steps_more n t pos s c = refl

steps_none : (t pos : ℕ) (s : ℕ → ℕ) (c : List ℕ) → ball_steps 0 t pos s c ≡ c
unfolding ball_steps
steps_none t pos s c = refl

signed : (b : ℕ) → b < 2 → 1 + b * 8380415 ≡ cond (eqb b 1) 8380416 1
signed b h = elim (cases_eq b 1) [
  | inl e ↦ ap (λ x. 1 + x * 8380415) e ∙ sym (cond-true _ _ _ (eq-eqb b 1 e))
  | inr ne ↦ ap (λ x. 1 + x * 8380415) {x = b} {y = 0} (omega (arith, ne)) ∙ sym (cond-false _ _ _ (ne_eqb b 1 ne))
]

-- The reader, with r still to come, is at pos of the stream s, and the n steps from t on lead from c to the goal.
pub record Left (s r : ℕ → ℕ) (n t : ℕ) (c goal : List ℕ) : Type 0 where
  pub pos : ℕ
  pub on : r ≡ (λ k. s (pos + k))
  pub is : ball_steps n t pos s c ≡ goal

pub step_next : (s r r1 : ℕ → ℕ) (tau t i j b : ℕ) (c goal : List ℕ) → t < tau → i + tau ≡ 256 + t → Left s r (tau - t) t c goal →
    j ≡ r (first_at_most 1024 0 i r) → r1 ≡ (λ k. r (first_at_most 1024 0 i r + 1 + k)) → b ≡ (s (t / 8) / 2 ^ (t % 8)) % 2 →
    Left s r1 (tau - (t + 1)) (t + 1) (set (set c i (at c j)) j (1 + b * 8380415)) goal
step_next s r r1 tau t i j b c goal h row a jis onward bis =
    let n : ℕ = tau - (t + 1) in
    let pos : ℕ = a.pos in
    let place : i ≡ 256 - suc n = omega arith in
    let p : ℕ = first_at_most 1024 pos (256 - suc n) s in
    let found : pos + first_at_most 1024 0 i r ≡ p = ap₂ (λ x f. pos + first_at_most 1024 0 x f) place a.on ∙ first_at s pos (256 - suc n) 1024 in
    let read : (k : ℕ) → r k ≡ s (pos + k) = λ k. ap (λ (f : ℕ → ℕ). f k) a.on in
    let jat : j ≡ s p = jis ∙ (read (first_at_most 1024 0 i r) ∙ ap s found) in
    let small : b < 2 = omega (arith, bis) in
    let next : set (set c i (at c j)) j (1 + b * 8380415) ≡ set (set c (256 - suc n) (at c (s p))) (s p) (cond (eqb ((s (t / 8) / 2 ^ (t % 8)) % 2) 1) 8380416 1) =
    ap₂ (λ x y. set (set c x (at c y)) y (1 + b * 8380415)) place jat ∙ ap (set (set c (256 - suc n) (at c (s p))) (s p)) (signed b small ∙ ap (λ x. cond (eqb x 1) 8380416 1) bis) in
    record {
      pos = p + 1;
      on = onward ∙ fun_ext (λ k. read (first_at_most 1024 0 i r + 1 + k) ∙ ap s {x = pos + (first_at_most 1024 0 i r + 1 + k)} {y = p + 1 + k} (omega (arith, found)));
      is = ap (ball_steps n (t + 1) (p + 1) s) next ∙ (sym (steps_more n t pos s c) ∙ (ap (λ k. ball_steps k t pos s c) {x = suc n} {y = tau - t} (omega arith) ∙ a.is));
    }

pub steps_end : (s r : ℕ → ℕ) (tau t : ℕ) (c goal : List ℕ) → tau ≤ t → Left s r (tau - t) t c goal → c ≡ goal
steps_end s r tau t c goal h a = sym (steps_none t a.pos s c) ∙ (ap (λ k. ball_steps k t a.pos s c) {x = 0} {y = tau - t} (omega arith) ∙ a.is)

-- the sign of step t, from the first eight bytes
pub sign_is : (s : ℕ → ℕ) (signs : List ℕ) (t : ℕ) → t < 64 → signs ≡ table 8 s → (at signs (t / 8) / 2 ^ (t % 8)) % 2 ≡ (s (t / 8) / 2 ^ (t % 8)) % 2
sign_is s signs t h e = ap (λ x. (x / 2 ^ (t % 8)) % 2) (ap (λ b. at b (t / 8)) e ∙ at_table 8 s (t / 8) (omega arith))

-- ---- one byte more of a stream s of which `seen` bytes were read, with r still to come
pub next_read : (s r : ℕ → ℕ) (seen b : ℕ) → r ≡ (λ k. s (seen + k)) → b ≡ r 0 → b ≡ s seen
next_read s r seen b on is = is ∙ (ap (λ (f : ℕ → ℕ). f 0) on ∙ ap s {x = seen + 0} {y = seen} (omega arith))

pub next_onward : (s r r1 : ℕ → ℕ) (seen : ℕ) → r ≡ (λ k. s (seen + k)) → r1 ≡ (λ k. r (1 + k)) → r1 ≡ (λ k. s (seen + 1 + k))
next_onward s r r1 seen on is =
    is ∙ fun_ext (λ k. ap (λ (f : ℕ → ℕ). f (1 + k)) on ∙ ap s {x = seen + (1 + k)} {y = seen + 1 + k} (omega arith))

-- a byte that is the one looked for: small enough, or the one after all
pub place_found : (s r r1 : ℕ → ℕ) (all seen i b goal : ℕ) → r ≡ (λ k. s (seen + k)) → first_at_most (all - seen) seen i s ≡ goal → b ≡ r 0 → r1 ≡ (λ k. r (1 + k)) → (b ≤ i) ⊎ (all ≤ seen) → (b ≡ s goal) × (r1 ≡ (λ k. s (goal + 1 + k)))
place_found s r r1 all seen i b goal on e is onward end =
    let v = next_read s r seen b on is in
    let at = sym (first_found s all seen i b goal v end e) in
    (v ∙ ap s at, next_onward s r r1 seen on onward ∙ ap (λ n k. s (n + 1 + k)) at)
