-- One word more of those that are left of a line.
use Rattle.std.proofs.Common.{◌≡◌, ℕ, ◌+◌, ◌≤◌, List, [], ◌∷◌, length, Option, None, Some, MatchOption, Bor, sym, ap, ◌∙◌, arith}
use Rattle.std.specs.Prelude.{IsUtf8, chars, encode_utf8_all}
use Rattle.std.specs.Char.{is_whitespace}
use Rattle.std.specs.List.{slice_split}
use Rattle.std.specs.Str.Iter.{split_whitespace_rest, split_whitespace_steps}
use Rattle.std.specs.declared.str.SplitWhitespace.{SplitWhitespace}
use Rattle.std.proofs.lemmas.List.{length-map}
use Rattle.std.proofs.lemmas.List.Splits.{length-slice_split}
use Rattle.std.proofs.lemmas.List.Sums.{count_by-le-length, length-filter}
use Rattle.std.proofs.lemmas.Str.{IsUtf8-had, chars-encodes, length-le-encodes}
use Rattle.lines.specs.Words.{is_word, words_in, words_of}
use Rattle.lines.proofs.Split.{next_word}

abbrev words : SplitWhitespace → List (List ℕ)
words s = words_of (split_whitespace_rest s)

pub left_next : (s t : SplitWhitespace) (r : Option (Bor (List ℕ))) → ∥ IsUtf8 (split_whitespace_rest s) ∥₁ → split_whitespace_steps s r t
    → MatchOption r ((words s ≡ []) × (words t ≡ [])) (λ x. words s ≡ x.now ∷ words t) × ∥ IsUtf8 (split_whitespace_rest t) ∥₁ × (length (words t) ≤ length (words s))
left_next s t None u (same, blank) = let none = next_word s t None (IsUtf8-had _ u) (same, blank) in rw same ((none, none), u, omega arith)
left_next s t (Some x) u h = let (first, more) = next_word s t (Some x) (IsUtf8-had _ u) h in (first, ∣ more ∣₁, omega (arith, ap length first))

-- a text has at most one word more than it has characters
few_words : (text : List ℕ) → IsUtf8 text → length (words_of text) ≤ length text + 1
few_words text (ds, (ok, is)) =
    let cs = chars text in
    let parts = slice_split is_whitespace cs in
    let same : cs ≡ ds = ap chars (sym is) ∙ chars-encodes ds ok in
    omega (
      arith,
      length-map (words_in cs) encode_utf8_all,
      length-filter is_word parts,
      count_by-le-length is_word parts,
      length-slice_split is_whitespace cs,
      count_by-le-length is_whitespace cs,
      ap length same,
      length-le-encodes ds,
      ap length is,
    )

-- all words of a line are left at first
pub utf8_first : (line : List ℕ) (s : SplitWhitespace) → split_whitespace_rest s ≡ line → IsUtf8 line → ∥ IsUtf8 (split_whitespace_rest s) ∥₁
utf8_first line s is u = rw is (∣ u ∣₁)

pub few_first : (line : List ℕ) (s : SplitWhitespace) → split_whitespace_rest s ≡ line → IsUtf8 line → length (words s) ≤ length line + 1
few_first line s is u = rw is (few_words line u)

pub ruleset left_first = (utf8_first, few_first)
