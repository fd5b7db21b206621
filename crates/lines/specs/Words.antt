-- The words of a text: what stands between white space. Assumes nothing.
use Rattle.std.specs.Prelude.{ℕ, Bool, List, length, map, filter, nat_lt, chars, encode_utf8_all}
use Rattle.std.specs.Char.{is_whitespace}
use Rattle.std.specs.List.{slice_split}

abbrev pub is_word : List ℕ → Bool
is_word part = nat_lt 0 (length part)

-- the parts between white space that are not empty, as characters
abbrev pub words_in : List ℕ → List (List ℕ)
words_in text = filter is_word (slice_split is_whitespace text)

-- the same as bytes, of a text as bytes
abbrev pub words_of : List ℕ → List (List ℕ)
words_of text = map encode_utf8_all (words_in (chars text))
