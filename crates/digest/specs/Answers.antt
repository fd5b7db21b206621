-- What the program answers to a line, and what it prints. Characters are their codes. Assumes nothing.
use Rattle.std.specs.Prelude.{ℕ, cond, List, [], ◌∷◌, Result, Ok, Err, codes, bytes_eq}
use Rattle.hex_digits.specs.Hex.{hex_of, is_hex, bytes_of}
use Rattle.lines.specs.Answers.{StatedOr}
use Rattle.lines.specs.Problems.{◌>>=◌, number_in}
use Rattle.lines.specs.Words.{words_of}
use Rattle.digest.specs.Functions.{gives, hash_of}
use Rattle.digest.specs.declared.functions.Function.{Function}
use Rattle.digest.specs.declared.functions.Function.TheVariants.{Sha3_256, Sha3_512, Shake128, Shake256}
use Rattle.digest.specs.declared.answers.Problem.{Problem}
use Rattle.digest.specs.declared.answers.Problem.TheVariants.{Usage, NoFunction, NotHex, NoNumber, Length}

-- what is printed of a problem
abbrev pub text_of : Problem → List ℕ
text_of Usage = codes "a line is: FUNCTION MESSAGE BYTES"
text_of NoFunction = codes "the functions are sha3-256, sha3-512, shake128 and shake256"
text_of NotHex = codes "the message is not hexadecimal digits, an even number of them"
text_of NoNumber = codes "the number of bytes is not a number"
text_of Length = codes "the function does not give that many bytes"

-- the function of that name
abbrev pub function_of : List ℕ → Result Function Problem
function_of word =
    cond (bytes_eq word (codes "sha3-256")) (Ok Sha3_256) (cond (bytes_eq word (codes "sha3-512")) (Ok Sha3_512)
    (cond (bytes_eq word (codes "shake128")) (Ok Shake128) (cond (bytes_eq word (codes "shake256")) (Ok Shake256) (Err NoFunction))))

-- the message in digits; `-` is the empty one
abbrev pub message_of : List ℕ → Result (List ℕ) Problem
message_of word = cond (bytes_eq word (codes "-")) (Ok []) (cond (is_hex word) (Ok (bytes_of word)) (Err NotHex))

-- that many bytes of the message's hash
abbrev pub bytes_hashed : Function → List ℕ → ℕ → Result (List ℕ) Problem
bytes_hashed f m n = cond (gives f n) (Ok (hash_of f m n)) (Err Length)

-- bytes as they are printed; no bytes are `-`
abbrev pub shown_of : List ℕ → List ℕ
shown_of [] = codes "-"
shown_of (b ∷ bs) = hex_of (b ∷ bs)

-- the answer to the words FUNCTION MESSAGE BYTES
unfoldable pub reply_of : List ℕ → List ℕ → List ℕ → Result (List ℕ) Problem
reply_of function digits count = do
  f ← function_of function
  m ← message_of digits
  n ← number_in NoNumber 64 count
  bytes ← bytes_hashed f m n
  Ok (shown_of bytes)

-- to any words
abbrev pub reply_to : List (List ℕ) → Result (List ℕ) Problem
reply_to (function ∷ digits ∷ count ∷ []) = reply_of function digits count
reply_to _ = Err Usage

-- to a line
abbrev pub answer_of : List ℕ → Result (List ℕ) Problem
answer_of line = reply_to (words_of line)

-- what is written for a line: the answer, what is wrong with the line, or that there is no memory
abbrev pub Answers : List ℕ → List ℕ → Type 0
Answers = StatedOr text_of answer_of
