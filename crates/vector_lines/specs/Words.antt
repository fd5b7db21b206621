-- The words of a line of outside vectors: a set, a field, a seed. Assumes nothing.
use Rattle.std.specs.Prelude.{ℕ, cond, List, [], length, codes, bytes_eq, ◌==◌, Ok, Err, Result}
use Rattle.standards.specs.Calls.{is_set}
use Rattle.hex_digits.specs.Hex.{is_hex, bytes_of}
use Rattle.files.specs.Texts.{set_of}
use Rattle.vector_lines.specs.Faults.{refused_by}

-- the set that a word names
abbrev pub set_in : List ℕ → Result ℕ (List ℕ)
set_in word = cond (is_set (set_of word)) (Ok (set_of word)) (Err (refused_by 1))

-- a field is digits, or `-` for no bytes
abbrev pub field_in : List ℕ → Result (List ℕ) (List ℕ)
field_in word = cond (bytes_eq word (codes "-")) (Ok []) (cond (is_hex word) (Ok (bytes_of word)) (Err (refused_by 7)))

-- a seed or a coin
abbrev pub seed_in : List ℕ → Result (List ℕ) (List ℕ)
seed_in bytes = cond (length bytes == 32) (Ok bytes) (Err (refused_by 2))
