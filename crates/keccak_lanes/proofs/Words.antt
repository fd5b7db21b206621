-- Four states as 100 words.
use Rattle.std.proofs.Common.{◌≡◌, ℕ, zero, suc, ◌+◌, ◌*◌, ◌<◌, List, [], ◌∷◌, length, sym, refl, ap, ◌∙◌, add-zero, arith}
use Rattle.standards.specs.Lists.{at, row_at}
use Rattle.algebra.proofs.Tables.{is_table, table_same}
use Rattle.keccak_lanes.specs.FourStates.{state_of, state_in}

-- a, in every fourth word
pub put_beside : (l : ℕ) (words a : List ℕ) → length a ≡ 25 → ((k : ℕ) → k < 25 → at words (4 * k + l) ≡ at a k) → state_in l words ≡ a
put_beside l words a len each = sym (is_table 25 (λ i. at words (4 * i + l)) a len (λ k h. sym (each k h)))

one_of : (w : ℕ → ℕ) (m l : ℕ) → l < 4 → at (w m ∷ w (m + 1) ∷ w (m + 2) ∷ w (m + 3) ∷ []) l ≡ w (m + l)
one_of w m zero h = rw add-zero
one_of w m (suc zero) h = refl
one_of w m (suc (suc zero)) h = refl
one_of w m (suc (suc (suc zero))) h = refl
one_of w m (suc (suc (suc (suc l)))) h = absurd (omega arith)

pub loaded_states : (lanes : List (List ℕ)) (words : List ℕ) →
    ((k : ℕ) → k < 25 → row_at lanes k ≡ at words (4 * k) ∷ at words (4 * k + 1) ∷ at words (4 * k + 2) ∷ at words (4 * k + 3) ∷ []) →
    (l : ℕ) → l < 4 → state_of l lanes ≡ state_in l words
loaded_states lanes words each l h =
    table_same 25 (λ i. at (row_at lanes i) l) (λ i. at words (4 * i + l)) (λ k s. ap (λ v. at v l) (each k s) ∙ one_of (at words) (4 * k) l h)

pub stored_states : (lanes : List (List ℕ)) (words : List ℕ) →
    ((k : ℕ) → k < 25 → at words (4 * k) ≡ at (row_at lanes k) 0) → ((k : ℕ) → k < 25 → at words (4 * k + 1) ≡ at (row_at lanes k) 1) →
    ((k : ℕ) → k < 25 → at words (4 * k + 2) ≡ at (row_at lanes k) 2) → ((k : ℕ) → k < 25 → at words (4 * k + 3) ≡ at (row_at lanes k) 3) →
    (l : ℕ) → l < 4 → state_in l words ≡ state_of l lanes
stored_states lanes words p q r s zero h = table_same 25 _ _ (λ k b. rw (add-zero (4 * k)) (p k b))
stored_states lanes words p q r s (suc zero) h = table_same 25 _ _ q
stored_states lanes words p q r s (suc (suc zero)) h = table_same 25 _ _ r
stored_states lanes words p q r s (suc (suc (suc zero))) h = table_same 25 _ _ s
stored_states lanes words p q r s (suc (suc (suc (suc l)))) h = absurd (omega arith)
