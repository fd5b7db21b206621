-- The words that an iterator over a line is still to give. Assumes nothing.
use Rattle.std.specs.Prelude.{ℕ, List}
use Rattle.std.specs.Str.Iter.{split_whitespace_rest}
use Rattle.lines.specs.Words.{words_of}
use Rattle.lines.specs.declared.words.LineWords.{LineWords}

abbrev pub left : LineWords → List (List ℕ)
left words = words_of (split_whitespace_rest words.rest)
