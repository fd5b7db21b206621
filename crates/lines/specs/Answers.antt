-- What is written for the lines of a text. Characters are their codes. Assumes nothing.
use Rattle.std.specs.Prelude.{◌≡◌, ℕ, ◌⊎◌, List, [], ◌∷◌, ◌++◌, Option, Result, Ok, Err, String, codes, string_bytes, IfSome}
use Rattle.std.specs.Io.KnownBytes.{Appends}
use Rattle.std.specs.Str.Lines.{lines}

-- the line of an answer, or of the problem that stands in its place; `output` is what a problem prints
abbrev pub Shows : {E A : Type 0} → (E → Option (List ℕ)) → Result (String A) E → List ℕ → Type 0
Shows output (Ok text) shown = shown ≡ string_bytes text ++ codes "\n"
Shows output (Err e) shown = IfSome (output e) (λ text. shown ≡ codes "cannot: " ++ (text ++ codes "\n"))

-- each line is answered, in order; `Answers line shown` says that this may be shown for the line
abbrev pub Answered : (List ℕ → List ℕ → Type 0) → List (List ℕ) → List ℕ → Type 0
Answered Answers [] written = written ≡ []
Answered Answers (line ∷ lines) written = (shown more : List ℕ) × Answers line shown × Answered Answers lines more × (written ≡ shown ++ more)

-- where the bytes of an input are known, those that are known of a writer, first `old`, grow by answers to its lines
abbrev pub AnswersLines : (List ℕ → List ℕ → Type 0) → Option (List ℕ) → Option (List ℕ) → Option (List ℕ) → Type 0
AnswersLines Answers input old new = IfSome input (λ text. (written : List ℕ) × Appends old new written × Answered Answers (lines text) written)

-- what is written for a line: the answer, or what is wrong with the line; `text_of` is what is printed of a problem
abbrev pub line_of : {E : Type 0} → (E → List ℕ) → Result (List ℕ) E → List ℕ
line_of text_of (Ok text) = text ++ codes "\n"
line_of text_of (Err problem) = codes "cannot: " ++ (text_of problem ++ codes "\n")

-- what is stated for the line, or that there is no memory
abbrev pub StatedOr : {E : Type 0} → (E → List ℕ) → (List ℕ → Result (List ℕ) E) → List ℕ → List ℕ → Type 0
StatedOr text_of answer_of line shown = (shown ≡ line_of text_of (answer_of line)) ⊎ (shown ≡ codes "cannot: no memory\n")
