-- Bytes as hexadecimal digits, and what is read of a text of such digits. Characters are their codes.
use Rattle.std.specs.Prelude.{ℕ, ◌+◌, ◌-◌, ◌*◌, ◌/◌, ◌%◌, Bool, cond, ◌&&◌, ◌||◌, List, [], ◌∷◌, length, ◌==◌, nat_le, nat_lt}
use Rattle.standards.specs.Lists.{table, at, all_below}

-- the digit of a number below 16, a small letter from 10 on
abbrev pub digit_of : ℕ → ℕ
digit_of n = cond (nat_lt n 10) (48 + n) (87 + n)

-- two digits for each byte, the high one first
unfoldable pub hex_of : List ℕ → List ℕ
hex_of [] = []
hex_of (b ∷ bs) = digit_of (b / 16) ∷ digit_of (b % 16) ∷ hex_of bs

-- the number of a digit, small letters and capitals alike, or 16 for what is none
abbrev pub value_of : ℕ → ℕ
value_of c = cond (nat_le 48 c && nat_le c 57) (c - 48) (cond (nat_le 97 c && nat_le c 102) (c - 87) (cond (nat_le 65 c && nat_le c 70) (c - 55) 16))

-- spaces and line ends, a carriage return among these; a tab is neither
abbrev pub is_space : ℕ → Bool
is_space c = c == 32 || c == 10 || c == 13

-- the values of all characters that are not spaces
unfoldable pub values_of : List ℕ → List ℕ
values_of [] = []
values_of (c ∷ cs) = cond (is_space c) (values_of cs) (value_of c ∷ values_of cs)

-- a text of digits, an even number of them
abbrev pub is_hex : List ℕ → Bool
is_hex text = all_below 16 (values_of text) && length (values_of text) % 2 == 0

-- its bytes, of two digits each
abbrev pub paired : List ℕ → List ℕ
paired vs = table (length vs / 2) (λ i. 16 * at vs (2 * i) + at vs (2 * i + 1))

abbrev pub bytes_of : List ℕ → List ℕ
bytes_of text = paired (values_of text)
