-- What the program `kem` answers of a word for the set and of its files, over any hashes: the first number that refuses, or lines. Assumes nothing.
use Rattle.std.specs.Prelude.{ℕ, true, ◌&&◌, ◌||◌, List, ◌++◌, Option}
use Rattle.standards.specs.Hashes.{Hashes}
use Rattle.standards.specs.MlKem.{ek_length, dk_length, text_length, ek_of, dk_of, encaps_key, encaps_text, decaps}
use Rattle.standards.specs.Calls.{kem_of, kem_keys_verdict, encaps_verdict, decaps_verdict}
use Rattle.files.specs.Texts.{set_of, unreadable, bytes_in, is_seed, hex_line, answered, first_of}

-- kem keys SET D Z: the encapsulation key and the decapsulation key
abbrev pub call_keys : Hashes → ℕ → List ℕ → List ℕ → List ℕ
call_keys h s d z =
    answered (kem_keys_verdict h s d (ek_length (kem_of s)) (dk_length (kem_of s)))
    (hex_line (ek_of h (kem_of s) d) ++ hex_line (dk_of h (kem_of s) d z))

-- kem encaps SET PK M: the key and the ciphertext
abbrev pub call_encaps : Hashes → ℕ → List ℕ → List ℕ → List ℕ
call_encaps h s ek m =
    answered (encaps_verdict h s ek (text_length (kem_of s)))
    (hex_line (encaps_key h ek m) ++ hex_line (encaps_text h (kem_of s) ek m))

-- kem decaps SET SK TEXT: the key
abbrev pub call_decaps : Hashes → ℕ → List ℕ → List ℕ → List ℕ
call_decaps h s dk c = answered (decaps_verdict h s dk c) (hex_line (decaps h (kem_of s) dk c))

abbrev pub keys_answer : Hashes → List ℕ → Option (List ℕ) → Option (List ℕ) → List ℕ
keys_answer h set d z = first_of set (unreadable d || unreadable z) (is_seed d && is_seed z) (call_keys h (set_of set) (bytes_in d) (bytes_in z))

abbrev pub encaps_answer : Hashes → List ℕ → Option (List ℕ) → Option (List ℕ) → List ℕ
encaps_answer h set ek m = first_of set (unreadable ek || unreadable m) (is_seed m) (call_encaps h (set_of set) (bytes_in ek) (bytes_in m))

abbrev pub decaps_answer : Hashes → List ℕ → Option (List ℕ) → Option (List ℕ) → List ℕ
decaps_answer h set dk c = first_of set (unreadable dk || unreadable c) true (call_decaps h (set_of set) (bytes_in dk) (bytes_in c))
