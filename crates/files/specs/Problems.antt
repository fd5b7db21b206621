-- A problem's number, and what an answer comes to. Assumes nothing.
use Rattle.std.specs.Prelude.{◌≡◌, ℕ, List, codes, decimal, Ok, Err, Result, Some, None, Option, Vec, vec_items, IfSome}
use Rattle.sets.specs.Sets.{number_of}
use Rattle.files.specs.declared.problem.Problem.{Problem}
use Rattle.files.specs.declared.problem.Problem.TheVariants.{Refused, Unreadable, NoMemory}
use Rattle.files.specs.Texts.{refusal_line}

-- the number of a refusal, or 7 for a file that can't be used; want of memory has none
abbrev pub problem_number : Problem → Option ℕ
problem_number (Refused r) = Some (number_of r)
problem_number Unreadable = Some 7
problem_number (NoMemory e) = None

-- how a problem is spelled
abbrev pub problem_text : Problem → List ℕ
problem_text (Refused r) = decimal (number_of r)
problem_text Unreadable = decimal 7
problem_text (NoMemory e) = codes "out of memory"

-- the refusal n, since P holds; memory may be wanting whatever holds
abbrev pub IsRefusal : Problem → ℕ → Type 0 → Type 0
IsRefusal p n P = IfSome (problem_number p) (λ m. (m ≡ n) × P)

-- lines, or a refusal, that make this text; want of memory makes none
abbrev pub Answers : {Z : Type 0} → Result (Vec ℕ Z) Problem → List ℕ → Type 0
Answers (Ok v) text = vec_items v ≡ text
Answers (Err p) text = IfSome (problem_number p) (λ n. text ≡ refusal_line n)
