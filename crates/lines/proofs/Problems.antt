-- What is written of an answer.
use Rattle.std.proofs.Common.{ℕ, List, inl, inr, Option, Some, IsSome, Result, Ok, Err, String, string_bytes, refl, sym, ap, ◌∙◌}
use Rattle.lines.specs.Answers.{Shows, line_of, StatedOr}
use Rattle.lines.specs.Problems.{Gives, printed}
use Rattle.lines.specs.declared.failure.Failure.{Failure}
use Rattle.lines.specs.declared.failure.Failure.TheVariants.{Problem, NoMemory}

module _ {E : Type 0} (text_of : E → List ℕ) where
  abbrev pub text : Failure E → Option (List ℕ)
  text = printed (λ problem. Some (text_of problem))

  -- a failure has a text
  pub has_text : (failure : Failure E) → IsSome (text failure)
  has_text (Problem problem) = refl
  has_text NoMemory = refl

  module _ (answer_of : List ℕ → Result (List ℕ) E) where
    pub shows_answer : {A : Type 0} (line shown : List ℕ) (r : Result (String A) (Failure E)) → Gives string_bytes r (answer_of line) → Shows text r shown
        → StatedOr text_of answer_of line shown
    shows_answer line shown (Ok text) stated is = inl (is ∙ sym (ap (line_of text_of) stated))
    shows_answer line shown (Err (Problem problem)) stated is = inl (is ∙ sym (ap (line_of text_of) stated))
    shows_answer line shown (Err NoMemory) stated is = inr is
