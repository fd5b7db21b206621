-- What the program `dsa` answers of a word for the set and of its files, over any hashes: the first number that refuses, or lines. Assumes nothing.
use Rattle.std.specs.Prelude.{ℕ, Bool, false, cond, not, ◌&&◌, ◌||◌, List, ◌++◌, codes, Option}
use Rattle.standards.specs.Hashes.{Hashes}
use Rattle.standards.specs.MlDsa.{pk_length, sk_length, sig_length, pk_of, sk_of}
use Rattle.standards.specs.Calls.{is_set, dsa_of, dsa_keys_verdict, signed, sign_verdict, accepts}
use Rattle.files.specs.Texts.{set_of, unreadable, bytes_in, is_seed, fits, hex_line, refusal_line, answered, first_of}

-- dsa keys SET XI: the public key and the secret key
abbrev pub call_keys : Hashes → ℕ → List ℕ → List ℕ
call_keys h s xi =
    answered (dsa_keys_verdict h s xi (pk_length (dsa_of s)) (sk_length (dsa_of s)))
    (hex_line (pk_of h (dsa_of s) xi) ++ hex_line (sk_of h (dsa_of s) xi))

-- dsa sign SET SK CTX MESSAGE COIN: the signature
abbrev pub call_sign : Hashes → ℕ → List ℕ → List ℕ → List ℕ → List ℕ → List ℕ
call_sign h s sk ctx message coin = answered (sign_verdict h s sk ctx message coin (sig_length (dsa_of s))) (hex_line (signed h s sk ctx message coin))

-- dsa verify SET PK CTX MESSAGE SIG: good or bad
abbrev pub good_or_bad : Bool → List ℕ
good_or_bad good = cond good (codes "good\n") (codes "bad\n")

abbrev pub keys_answer : Hashes → List ℕ → Option (List ℕ) → List ℕ
keys_answer h set xi = first_of set (unreadable xi) (is_seed xi) (call_keys h (set_of set) (bytes_in xi))

-- a context or a message may have any length, but not be longer than the program takes
abbrev pub sign_answer : Hashes → List ℕ → Option (List ℕ) → Option (List ℕ) → Option (List ℕ) → Option (List ℕ) → List ℕ
sign_answer h set sk ctx message coin =
    first_of set ((unreadable sk || unreadable ctx) || (unreadable message || unreadable coin)) (fits ctx && fits message && is_seed coin)
    (call_sign h (set_of set) (bytes_in sk) (bytes_in ctx) (bytes_in message) (bytes_in coin))

-- dsa verify for a set that there is
abbrev pub checked : Hashes → ℕ → Option (List ℕ) → Option (List ℕ) → Option (List ℕ) → Option (List ℕ) → List ℕ
checked h s pk ctx message sig =
    cond ((unreadable pk || unreadable ctx) || (unreadable message || unreadable sig)) (refusal_line 7)
    (cond (not (fits pk && fits ctx && fits message && fits sig)) (refusal_line 2) (good_or_bad (accepts h s (bytes_in pk) (bytes_in ctx) (bytes_in message) (bytes_in sig))))

-- nothing is good for a set that there is not
abbrev pub verify_answer : Hashes → List ℕ → Option (List ℕ) → Option (List ℕ) → Option (List ℕ) → Option (List ℕ) → List ℕ
verify_answer h set pk ctx message sig = cond (is_set (set_of set)) (checked h (set_of set) pk ctx message sig) (good_or_bad false)
