-- What the programs read of a word and of a file, and how they print. Characters are their codes. Assumes nothing.
use Rattle.std.specs.Prelude.{ℕ, ◌-◌, Bool, true, cond, not, ◌&&◌, List, [], ◌∷◌, ◌++◌, length, Some, None, codes, decimal, Option, ◌==◌, nat_le}
use Rattle.std.specs.Borrow.{Bor}
use Rattle.standards.specs.Calls.{is_set}
use Rattle.hex_digits.specs.Hex.{hex_of, is_hex, bytes_of}

-- the longest text that a program takes, in characters: the digits of 4 MiB of bytes, and as much for spaces and line ends
abbrev pub most_text : ℕ
most_text = 16777216

-- the set that a word names: the digit 1, 2 or 3 alone, or 0 for any other word
abbrev pub set_of : List ℕ → ℕ
set_of [] = 0
set_of (c ∷ []) = cond (nat_le 49 c && nat_le c 51) (c - 48) 0
set_of (c ∷ d ∷ cs) = 0

-- the text of a file that was read
abbrev pub text_of : Option (Bor (List ℕ)) → Option (List ℕ)
text_of None = None
text_of (Some text) = Some text.now

-- a file is its text, or nothing if it can't be read. One that can't be read has no bytes, nor has one that isn't hexadecimal
abbrev pub unreadable : Option (List ℕ) → Bool
unreadable None = true
unreadable (Some text) = nat_le (length text) most_text && not (is_hex text)

-- the bytes of a file; none of one that is longer than the program takes
abbrev pub bytes_in : Option (List ℕ) → List ℕ
bytes_in None = []
bytes_in (Some text) = cond (nat_le (length text) most_text) (bytes_of text) []

-- a file of 32 bytes
abbrev pub is_seed : Option (List ℕ) → Bool
is_seed file = length (bytes_in file) == 32

-- a file that is longer than the program takes, which is a length that no call takes
abbrev pub fits : Option (List ℕ) → Bool
fits None = true
fits (Some text) = nat_le (length text) most_text

-- a line of digits
abbrev pub hex_line : List ℕ → List ℕ
hex_line bytes = hex_of bytes ++ codes "\n"

-- a refusal by its number
abbrev pub refusal_line : ℕ → List ℕ
refusal_line n = codes "no " ++ (decimal n ++ codes "\n")

-- the lines of an answer, or the number by which it is refused, if that is not 0
abbrev pub answered : ℕ → List ℕ → List ℕ
answered n lines = cond (n == 0) lines (refusal_line n)

-- The causes that stand before a call's own, in this order: no such set, a file that can't be used, a seed or coin that isn't 32 bytes.
-- If there is none, what the call gives
abbrev pub first_of : List ℕ → Bool → Bool → List ℕ → List ℕ
first_of set unread seeds lines =
    cond (not (is_set (set_of set))) (refusal_line 1) (cond unread (refusal_line 7) (cond (not seeds) (refusal_line 2) lines))
