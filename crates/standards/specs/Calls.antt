-- The calls on lent bytes, over any hashes: the number by which each answers, and what the lent bytes hold afterwards. Assumes nothing.
use Rattle.std.specs.Prelude.{Bool, cond, ◌&&◌, ◌||◌, not, List, ℕ, eqb, leb, length}
use Rattle.standards.specs.Hashes.{Hashes}
use Rattle.standards.specs.MlKemParts.{KemSet, mlkem512, mlkem768, mlkem1024}
use Rattle.standards.specs.MlKem.{ek_length, dk_length, text_length, check_ek, check_dk, matrix_drawn, ek_rho, dk_ek}
use Rattle.standards.specs.MlKem.{rho_of as kem_rho}
use Rattle.standards.specs.MlDsaParts.{DsaSet, mldsa44, mldsa65, mldsa87}
use Rattle.standards.specs.MlDsa.{pk_length, sk_length, sig_length, keys_drawn, sign, verify}

-- ---- sets by number, 1 to 3
abbrev pub is_set : ℕ → Bool
is_set n = leb 1 n && leb n 3

abbrev pub kem_of : ℕ → KemSet
kem_of n = cond (eqb n 1) mlkem512 (cond (eqb n 2) mlkem768 mlkem1024)

abbrev pub dsa_of : ℕ → DsaSet
dsa_of n = cond (eqb n 1) mldsa44 (cond (eqb n 2) mldsa65 mldsa87)

-- ---- A verdict is 0, or the number of the first cause of refusal:
-- 1 no such set; 2 lent bytes of another length than they must have; 3 a public key with a number of 3,329 or more in it, or a decapsulation
-- key whose hash is not that of the encapsulation key in it; 4 a draw that failed; 5 a context of more than 255 bytes; 6 no attempt at signing was good

-- keys of exchange, of the set s and the seed d, into so many bytes lent for each key
abbrev pub kem_keys_verdict : Hashes → ℕ → List ℕ → ℕ → ℕ → ℕ
kem_keys_verdict h s d ek dk =
    cond (not (is_set s)) 1
    (cond (not (eqb ek (ek_length (kem_of s)) && eqb dk (dk_length (kem_of s)))) 2
    (cond (not (matrix_drawn h (kem_of s) (kem_rho h (kem_of s) d))) 4 0))

abbrev pub encaps_verdict : Hashes → ℕ → List ℕ → ℕ → ℕ
encaps_verdict h s ek text =
    cond (not (is_set s)) 1
    (cond (not (eqb text (text_length (kem_of s))) || eqb (check_ek (kem_of s) ek) 1) 2
    (cond (not (eqb (check_ek (kem_of s) ek) 0)) 3
    (cond (not (matrix_drawn h (kem_of s) (ek_rho (kem_of s) ek))) 4 0)))

abbrev pub decaps_verdict : Hashes → ℕ → List ℕ → List ℕ → ℕ
decaps_verdict h s dk c =
    cond (not (is_set s)) 1
    (cond (eqb (check_dk h (kem_of s) dk c) 1) 2
    (cond (not (eqb (check_dk h (kem_of s) dk c) 0)) 3
    (cond (not (matrix_drawn h (kem_of s) (ek_rho (kem_of s) (dk_ek (kem_of s) dk)))) 4 0)))

-- keys of signatures, of the set s and the seed xi
abbrev pub dsa_keys_verdict : Hashes → ℕ → List ℕ → ℕ → ℕ → ℕ
dsa_keys_verdict h s xi pk sk =
    cond (not (is_set s)) 1
    (cond (not (eqb pk (pk_length (dsa_of s)) && eqb sk (sk_length (dsa_of s)))) 2
    (cond (not (keys_drawn h (dsa_of s) xi)) 4 0))

-- the bytes of a signature, none if no attempt was good
abbrev pub signed : Hashes → ℕ → List ℕ → List ℕ → List ℕ → List ℕ → List ℕ
signed h s sk ctx m rnd = sign h (dsa_of s) sk ctx m rnd

abbrev pub sign_verdict : Hashes → ℕ → List ℕ → List ℕ → List ℕ → List ℕ → ℕ → ℕ
sign_verdict h s sk ctx m rnd sig =
    cond (not (is_set s)) 1
    (cond (not (eqb (length sk) (sk_length (dsa_of s)) && eqb sig (sig_length (dsa_of s)))) 2
    (cond (not (leb (length ctx) 255)) 5
    (cond (eqb (length (signed h s sk ctx m rnd)) 0) 6 0)))

-- verify answers true or false; whatever does not fit is false
abbrev pub accepts : Hashes → ℕ → List ℕ → List ℕ → List ℕ → List ℕ → Bool
accepts h s pk ctx m sig = is_set s && verify h (dsa_of s) pk ctx m sig

-- what lent bytes hold after a call with the verdict v: new bytes, or, where it refuses, what they held
abbrev pub after : ℕ → List ℕ → List ℕ → List ℕ
after v new old = cond (eqb v 0) new old
