-- What the program answers to a line, and what it prints. Characters are their codes. Assumes nothing.
use Rattle.std.specs.Prelude.{ℕ, ◌*◌, ◌^◌, Bool, cond, List, [], ◌∷◌, ◌++◌, length, Result, Ok, Err, codes, decimal, bytes_eq, ◌==◌, nat_lt}
use Rattle.standards.specs.Bytes.{pack, unpack}
use Rattle.packing.specs.Widths.{kem_width, dsa_width}
use Rattle.hex_digits.specs.Hex.{hex_of, is_hex, bytes_of}
use Rattle.lines.specs.Answers.{StatedOr}
use Rattle.lines.specs.Problems.{◌>>=◌, number_in}
use Rattle.lines.specs.Words.{words_of}
use Rattle.bitpack.specs.Problems.{text_of}
use Rattle.bitpack.specs.declared.problem.Problem.{Problem}
use Rattle.bitpack.specs.declared.problem.Problem.TheVariants.{Usage, KemWidth, DsaWidth, NoNumber, TooLarge, Numbers, NotHex, Bytes}

-- ---- words as numbers
-- a width, and what another is answered
abbrev pub width_of : (ℕ → Bool) → Problem → List ℕ → Result ℕ Problem
width_of is_width other word = do
  d ← number_in NoNumber 64 word
  cond (is_width d) (Ok d) (Err other)

-- a number that fits d bits
abbrev pub number_of : ℕ → List ℕ → Result ℕ Problem
number_of d word = do
  x ← number_in NoNumber 32 word
  cond (nat_lt x (2 ^ d)) (Ok x) (Err TooLarge)

-- all words as numbers of d bits, or what is wrong with the first that is none
unfoldable pub all_of : ℕ → List (List ℕ) → Result (List ℕ) Problem
all_of d [] = Ok []
all_of d (word ∷ words) = do
  x ← number_of d word
  xs ← all_of d words
  Ok (x ∷ xs)

-- 256 of them
abbrev pub numbers_of : ℕ → List (List ℕ) → Result (List ℕ) Problem
numbers_of d words = do
  xs ← all_of d words
  cond (length xs == 256) (Ok xs) (Err (Numbers (length xs)))

-- ---- the first word as bytes, as many as are wanted
abbrev pub wanted : ℕ → List ℕ → Result (List ℕ) Problem
wanted want bs = cond (length bs == want) (Ok bs) (Err (Bytes (length bs) want))

abbrev pub bytes_in : ℕ → List (List ℕ) → Result (List ℕ) Problem
bytes_in want [] = Err Usage
bytes_in want (word ∷ words) = cond (is_hex word) (wanted want (bytes_of word)) (Err NotHex)

-- ---- numbers as they are printed, a space before each but the first; `decimal` is what std says that `{}` writes of a number
unfoldable pub behind : List ℕ → List ℕ
behind [] = []
behind (x ∷ xs) = codes " " ++ (decimal x ++ behind xs)

abbrev pub numbers_shown : List ℕ → List ℕ
numbers_shown [] = []
numbers_shown (x ∷ xs) = decimal x ++ behind xs

-- ---- the answers to the words behind a width
abbrev pub pack_answer : ℕ → List (List ℕ) → Result (List ℕ) Problem
pack_answer d words = do
  xs ← numbers_of d words
  Ok (hex_of (pack d xs))

abbrev pub unpack_answer : ℕ → List (List ℕ) → Result (List ℕ) Problem
unpack_answer d words = do
  bs ← bytes_in (32 * d) words
  Ok (numbers_shown (unpack d 256 bs))

-- to the words behind a scheme's name; `is_width` tells the scheme's widths, and another one is answered `other`
unfoldable pub command_answer : (ℕ → Bool) → Problem → List (List ℕ) → Result (List ℕ) Problem
command_answer is_width other [] = Err Usage
command_answer is_width other (command ∷ []) = Err Usage
command_answer is_width other (command ∷ width ∷ words) =
    let d = width_of is_width other width in
    cond (bytes_eq command (codes "pack")) (d >>= λ n. pack_answer n words) (cond (bytes_eq command (codes "unpack")) (d >>= λ n. unpack_answer n words) (Err Usage))

-- to all words of a line
unfoldable pub words_answer : List (List ℕ) → Result (List ℕ) Problem
words_answer [] = Err Usage
words_answer (scheme ∷ words) =
    cond (bytes_eq scheme (codes "kem")) (command_answer kem_width KemWidth words) (cond (bytes_eq scheme (codes "dsa")) (command_answer dsa_width DsaWidth words) (Err Usage))

-- to a line
abbrev pub answer_of : List ℕ → Result (List ℕ) Problem
answer_of line = words_answer (words_of line)

-- what is written for a line: the answer, what is wrong with the line, or that there is no memory
abbrev pub Answers : List ℕ → List ℕ → Type 0
Answers = StatedOr text_of answer_of
