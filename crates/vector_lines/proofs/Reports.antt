-- What the loop over the lines of outside vectors carries on.
use Rattle.std.proofs.Common.{◌≡◌, ℕ, ◌+◌, ◌<◌, List, [], ◌∷◌, ◌++◌, length, Option, None, Some, IfSome, Ok, Err, codes, decimal, refl, ap, ◌∙◌}
use Rattle.std.specs.Io.BufRead.{drop_through, first_line, DropsThrough}
use Rattle.std.specs.Io.KnownBytes.{Appends, IsAtEnd}
use Rattle.std.specs.Str.Lines.{lines}
use Rattle.standards.specs.Hashes.{Hashes}
use Rattle.lines.proofs.FirstLine.{lines_next}
use Rattle.vector_lines.specs.Lines.{line_said, first_fault, report}

module _ (h : Hashes) where
  more : (n : ℕ) (line : List ℕ) (ls : List (List ℕ)) → report h n (line ∷ ls) ≡ first_fault n (report h (n + 1) ls) (line_said h line)
  unfolding report
  more n line ls = refl

  none : (n : ℕ) → report h n [] ≡ codes "read " ++ (decimal n ++ codes "\n")
  unfolding report
  none n = refl

  -- n lines of the input are as they should be, and the rest is to come
  abbrev pub Reads : ℕ → Option (List ℕ) → Option (List ℕ) → Type 0
  Reads n input left = IfSome input (λ text. (rest : List ℕ) × (left ≡ Some rest) × (report h 0 (lines text) ≡ report h n (lines rest)))

  pub start : (input left : Option (List ℕ)) → left ≡ input → Reads 0 input left
  start None left e = tt
  start (Some text) left e = (text, e, refl)

  -- the next line
  next_said : (n : ℕ) (rest line : List ℕ) → 0 < length rest → line ≡ first_line rest → report h n (lines rest) ≡ first_fault n (report h (n + 1) (lines (drop_through 10 rest))) (line_said h line)
  next_said n rest line some is = rw is (ap (report h n) (lines_next rest some) ∙ more n _ _)

  pub step : (n : ℕ) (input left next : Option (List ℕ)) (line : List ℕ) → Reads n input left → IfSome left (λ xs. (0 < length xs) × (line ≡ first_line xs)) → DropsThrough left next 10
      → line_said h line ≡ Ok tt → Reads (n + 1) input next
  step n None left next line r first drops good = tt
  step n (Some text) left next line (rest, is, e) first drops good =
      let (some, line_is) = rw is at first in
      (drop_through 10 rest, rw is at drops, e ∙ (next_said n rest line some line_is ∙ ap (first_fault n _) good))

  -- the first line that something is wrong with
  pub stop : (n : ℕ) (old new input left : Option (List ℕ)) (line text : List ℕ) → Reads n input left → IfSome left (λ xs. (0 < length xs) × (line ≡ first_line xs))
      → line_said h line ≡ Err text → Appends old new (codes "line " ++ (decimal (n + 1) ++ (codes " " ++ (text ++ codes "\n")))) → IfSome input (λ all. Appends old new (report h 0 (lines all)))
  stop n old new None left line text r first bad w = tt
  stop n old new (Some all) left line text (rest, is, e) first bad w =
      let (some, line_is) = rw is at first in
      rw (e ∙ (next_said n rest line some line_is ∙ ap (first_fault n _) bad)) w

  pub end : (n : ℕ) (old new input left : Option (List ℕ)) → Reads n input left → IsAtEnd left → Appends old new (codes "read " ++ (decimal n ++ codes "\n"))
      → IfSome input (λ all. Appends old new (report h 0 (lines all)))
  end n old new None left r e w = tt
  end n old new (Some all) left (rest, is, same) e w =
      let nothing : rest ≡ [] = rw is at e in
      rw (same ∙ (ap (λ xs. report h n (lines xs)) nothing ∙ none n)) w
