-- Four states of Keccak side by side: 25 vectors of four lanes. Assumes nothing.
use Rattle.std.specs.Prelude.{◌≡◌, ℕ, ◌+◌, ◌*◌, ◌<◌, List}
use Rattle.standards.specs.Lists.{table, at, row_at}

-- state l: lane l of each of the vectors
abbrev pub state_of : ℕ → List (List ℕ) → List ℕ
state_of l lanes = table 25 (λ i. at (row_at lanes i) l)

-- each of the four states of t is f of that of s
abbrev pub EachState : (List ℕ → List ℕ) → List (List ℕ) → List (List ℕ) → Type 0
EachState f s t = (l : ℕ) → l < 4 → state_of l t ≡ f (state_of l s)

-- state l of four that are kept as 100 words, the four lanes of each vector one after the other
abbrev pub state_in : ℕ → List ℕ → List ℕ
state_in l words = table 25 (λ i. at words (4 * i + l))
