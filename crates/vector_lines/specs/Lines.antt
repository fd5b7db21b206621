-- What is said of outside vectors, a line each, over any hashes: the first thing that is wrong. Assumes nothing.
use Rattle.std.specs.Prelude.{ℕ, ◌+◌, cond, List, [], ◌∷◌, ◌++◌, codes, decimal, bytes_eq, Ok, Err, Result, ⊤}
use Rattle.standards.specs.Hashes.{Hashes}
use Rattle.lines.specs.Words.{words_of}
use Rattle.vector_lines.specs.Faults.{refused_by}
use Rattle.vector_lines.specs.KemLines.{kem_line}
use Rattle.vector_lines.specs.DsaLines.{dsa_line}

-- the line of a scheme, by its first word; or other words
abbrev pub words_said : Hashes → List (List ℕ) → Result ⊤ (List ℕ)
words_said h (scheme ∷ set ∷ a ∷ b ∷ c ∷ d ∷ e ∷ f ∷ g ∷ []) =
    cond (bytes_eq scheme (codes "kem")) (kem_line h set a b c d e f g) (cond (bytes_eq scheme (codes "dsa")) (dsa_line h set a b c d e f g) (Err (refused_by 7)))
words_said h _ = Err (refused_by 7)

abbrev pub line_said : Hashes → List ℕ → Result ⊤ (List ℕ)
line_said h line = words_said h (words_of line)

-- ---- all lines, of which n have gone before: the first that something is wrong with, or how many there are
abbrev pub first_fault : ℕ → List ℕ → Result ⊤ (List ℕ) → List ℕ
first_fault n goes_on (Ok _) = goes_on
first_fault n goes_on (Err text) = codes "line " ++ (decimal (n + 1) ++ (codes " " ++ (text ++ codes "\n")))

unfoldable pub report : Hashes → ℕ → List (List ℕ) → List ℕ
report h n [] = codes "read " ++ (decimal n ++ codes "\n")
report h n (line ∷ lines) = first_fault n (report h (n + 1) lines) (line_said h line)
