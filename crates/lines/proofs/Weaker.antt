-- Less may be said of each answer.
use Rattle.std.proofs.Common.{ℕ, List, [], ◌∷◌, Option, None, Some}
use Rattle.std.specs.Str.Lines.{lines}
use Rattle.lines.specs.Answers.{Answered, AnswersLines}

module _ (P Q : List ℕ → List ℕ → Type 0) (less : (line shown : List ℕ) → P line shown → Q line shown) where
  answered : (ls : List (List ℕ)) (written : List ℕ) → Answered P ls written → Answered Q ls written
  answered [] written h = h
  answered (line ∷ ls) written (shown, more, this, others, is) = (shown, more, less line shown this, answered ls more others, is)

  pub AnswersLines-weaker : (input old new : Option (List ℕ)) → AnswersLines P input old new → AnswersLines Q input old new
  AnswersLines-weaker None old new h = tt
  AnswersLines-weaker (Some text) old new (written, grows, all) = (written, grows, answered (lines text) written all)
