-- What a draw keeps of the candidates that it looks at.
use Rattle.std.specs.Prelude.{ℕ, Bool, cond, List, [], ◌∷◌}
use Rattle.standards.specs.Hashes.{draw}
use Rattle.algebra.specs.Draws.{accepted}

-- one value, if it fits
abbrev pub one_if : {A : Type 0} → Bool → A → List A
one_if fits x = cond fits (x ∷ []) []

-- of the first n candidates those that fit, each as its number
abbrev pub kept : (ℕ → Bool) → (ℕ → ℕ) → (ℕ → ℕ) → ℕ → List ℕ
kept fits number candidate n = accepted (λ k. fits (candidate k)) (λ k. number (candidate k)) n 0

-- the first 256 of these, or fewer where n candidates don't have as many
abbrev pub drawn : (ℕ → Bool) → (ℕ → ℕ) → (ℕ → ℕ) → ℕ → List ℕ
drawn fits number candidate n = draw (λ k. fits (candidate k)) (λ k. number (candidate k)) n 0 256
