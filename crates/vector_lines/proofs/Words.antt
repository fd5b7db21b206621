-- The words of a line, taken apart.
use Rattle.std.proofs.Common.{◌≡◌, ℕ, ◌<◌, ◌≤◌, ◌≢◌, Bool, true, false, cond, List, [], ◌∷◌, length, get_or, map, Err, Bor, refl, ◌∙◌, arith}
use Rattle.std.specs.Prelude.{codes, bytes_eq}
use Rattle.std.specs.Bool.{Decides}
use Rattle.std.proofs.lemmas.Slice.Eq.{bytes_eq-Decides}
use Rattle.standards.specs.Hashes.{Hashes}
use Rattle.vector_lines.specs.Faults.{refused_by}
use Rattle.vector_lines.specs.KemLines.{kem_line}
use Rattle.vector_lines.specs.DsaLines.{dsa_line}
use Rattle.vector_lines.specs.Lines.{words_said}

is_false : {P : Type 0} (b : Bool) → Decides b P → ¬ P → b ≡ false
is_false true d ne = absurd (ne (d.0 refl))
is_false false d ne = refl

module _ (h : Hashes) (ws : List (Bor (List ℕ))) (x : Bor (List ℕ)) where
  abbrev word : ℕ → List ℕ
  word i = (get_or ws i x).now

  -- nine words
  nine : 9 ≤ length ws → length ws < 10 → words_said h (map (λ w. w.now) ws) ≡ cond (bytes_eq (word 0) (codes "kem"))
      (kem_line h (word 1) (word 2) (word 3) (word 4) (word 5) (word 6) (word 7) (word 8)) (cond (bytes_eq (word 0) (codes "dsa")) (dsa_line h (word 1) (word 2) (word 3) (word 4) (word 5) (word 6) (word 7) (word 8)) (Err (refused_by 7)))
  nine l m = parts ws l m
    where
      parts : (ws : List (Bor (List ℕ))) → 9 ≤ length ws → length ws < 10 → words_said h (map (λ w. w.now) ws) ≡ cond (bytes_eq (get_or ws 0 x).now (codes "kem"))
          (kem_line h (get_or ws 1 x).now (get_or ws 2 x).now (get_or ws 3 x).now (get_or ws 4 x).now (get_or ws 5 x).now (get_or ws 6 x).now (get_or ws 7 x).now (get_or ws 8 x).now)
          (cond (bytes_eq (get_or ws 0 x).now (codes "dsa")) (dsa_line h (get_or ws 1 x).now (get_or ws 2 x).now (get_or ws 3 x).now (get_or ws 4 x).now (get_or ws 5 x).now (get_or ws 6 x).now (get_or ws 7 x).now (get_or ws 8 x).now) (Err (refused_by 7)))
      parts (a ∷ b ∷ c ∷ d ∷ e ∷ f ∷ g ∷ i ∷ j ∷ []) l m = refl
      parts _ l m = absurd (omega arith)

  -- of which the first is a scheme
  pub kem_words : 9 ≤ length ws → length ws < 10 → word 0 ≡ codes "kem" → words_said h (map (λ w. w.now) ws) ≡ kem_line h (word 1) (word 2) (word 3) (word 4) (word 5) (word 6) (word 7) (word 8)
  kem_words l m e = nine l m ∙ rw e refl

  pub dsa_words : 9 ≤ length ws → length ws < 10 → word 0 ≡ codes "dsa" → words_said h (map (λ w. w.now) ws) ≡ dsa_line h (word 1) (word 2) (word 3) (word 4) (word 5) (word 6) (word 7) (word 8)
  dsa_words l m e = nine l m ∙ rw e refl

  -- or is none
  pub other_words : 9 ≤ length ws → length ws < 10 → word 0 ≢ codes "kem" → word 0 ≢ codes "dsa" → words_said h (map (λ w. w.now) ws) ≡ Err (refused_by 7)
  other_words l m k d = nine l m ∙ rw (is_false _ (bytes_eq-Decides _ _) k, is_false _ (bytes_eq-Decides _ _) d) refl

-- fewer than nine, or more
pub fewer_words : (h : Hashes) (ws : List (Bor (List ℕ))) → length ws < 9 → words_said h (map (λ w. w.now) ws) ≡ Err (refused_by 7)
fewer_words h (a ∷ b ∷ c ∷ d ∷ e ∷ f ∷ g ∷ i ∷ j ∷ ws) l = absurd (omega arith)
fewer_words h [] l = refl
fewer_words h (a ∷ []) l = refl
fewer_words h (a ∷ b ∷ []) l = refl
fewer_words h (a ∷ b ∷ c ∷ []) l = refl
fewer_words h (a ∷ b ∷ c ∷ d ∷ []) l = refl
fewer_words h (a ∷ b ∷ c ∷ d ∷ e ∷ []) l = refl
fewer_words h (a ∷ b ∷ c ∷ d ∷ e ∷ f ∷ []) l = refl
fewer_words h (a ∷ b ∷ c ∷ d ∷ e ∷ f ∷ g ∷ []) l = refl
fewer_words h (a ∷ b ∷ c ∷ d ∷ e ∷ f ∷ g ∷ i ∷ []) l = refl

pub more_words : (h : Hashes) (ws : List (Bor (List ℕ))) → 10 ≤ length ws → words_said h (map (λ w. w.now) ws) ≡ Err (refused_by 7)
more_words h (a ∷ b ∷ c ∷ d ∷ e ∷ f ∷ g ∷ i ∷ j ∷ k ∷ ws) l = refl
more_words h _ l = absurd (omega arith)
