-- Sets by number, bytes, and verdicts by their tests.
use Rattle.std.proofs.Common.{◌≡◌, ℕ, zero, suc, ◌<◌, Bool, true, false, cond, not, ◌||◌, eqb, T, List, length, Result, IfOk, Ok, Err, Fits, w8, refl, subst, arith}
use Rattle.std.proofs.Math.Facts.{Fits-lt-pow}
use Rattle.standards.specs.Lists.{at, all_below}
use Rattle.standards.specs.Bytes.{Bytes}
use Rattle.standards.specs.MlKemParts.{mlkem512, mlkem768, mlkem1024}
use Rattle.standards.specs.MlDsaParts.{mldsa44, mldsa65, mldsa87}
use Rattle.standards.specs.Calls.{kem_of, dsa_of}
use Rattle.standards.specs.Promises.{OneKem, k512, k768, k1024, OneDsa, d44, d65, d87}
use Rattle.algebra.proofs.Tables.{all_below_lem}

-- every number names a set: one that is not from 1 to 3, the last
pub one_kem : (n : ℕ) → OneKem (kem_of n)
one_kem n = go (eqb n 1) (eqb n 2)
  where
    go : (a b : Bool) → OneKem (cond a mlkem512 (cond b mlkem768 mlkem1024))
    go true b = k512
    go false true = k768
    go false false = k1024

pub one_dsa : (n : ℕ) → OneDsa (dsa_of n)
one_dsa n = go (eqb n 1) (eqb n 2)
  where
    go : (a b : Bool) → OneDsa (cond a mldsa44 (cond b mldsa65 mldsa87))
    go true b = d44
    go false true = d65
    go false false = d87

-- what is known of the numbers of a slice, and of an array
pub slice_below : (xs : List ℕ) → ((i : ℕ) → Fits w8 (at xs i)) → T (all_below 256 xs)
slice_below xs fits = all_below_lem 256 xs (λ k _. Fits-lt-pow (fits k))

pub array_bytes : (n : ℕ) (xs : List ℕ) → length xs ≡ n → ((i : ℕ) → at xs i < 256) → Bytes n xs
array_bytes n xs l fits = (l, all_below_lem 256 xs (λ k _. fits k))

-- ---- verdicts by their tests
-- keys that were made: there is such a set, and the last test passed
pub made : (a b c : Bool) → ◌≡◌ {A = ℕ} 0 (cond (not a) 1 (cond (not b) 2 (cond (not c) 4 0))) → (a ≡ true) × (c ≡ true)
made true true true e = (refl, refl)
made true true false e = absurd (omega (arith, e))
made true false c e = absurd (omega (arith, e))
made false b c e = absurd (omega (arith, e))

-- encapsulation to a good key refuses a ciphertext of another length only
pub length_only : (a t c : Bool) (check : ℕ) → a ≡ true → check ≡ 0 → c ≡ true → ◌≡◌ {A = ℕ} (cond (not a) 1 (cond (not t || eqb check 1) 2 (cond (not (eqb check 0)) 3 (cond (not c) 4 0)))) (cond t 0 2)
length_only a true c n ea en ec = rw (ea, en, ec) refl
length_only a false c n ea en ec = rw ea refl

-- decapsulation by a good key refuses nothing
pub never : (a c : Bool) (check : ℕ) → a ≡ true → check ≡ 0 → c ≡ true → ◌≡◌ {A = ℕ} (cond (not a) 1 (cond (eqb check 1) 2 (cond (not (eqb check 0)) 3 (cond (not c) 4 0)))) 0
never a c n ea en ec = rw (ea, en, ec) refl

-- a signature that was made
pub signs : (a b c e : Bool) → ◌≡◌ {A = ℕ} 0 (cond (not a) 1 (cond (not b) 2 (cond (not c) 5 (cond e 6 0)))) → (a ≡ true) × (c ≡ true) × (e ≡ false)
signs true true true false h = (refl, refl, refl)
signs true true true true h = absurd (omega (arith, h))
signs true true false e h = absurd (omega (arith, h))
signs true false c e h = absurd (omega (arith, h))
signs false b c e h = absurd (omega (arith, h))

pub some : (n : ℕ) → eqb n 0 ≡ false → 0 < n
some zero e = absurd (subst T e tt)
some (suc n) e = omega arith

-- a fact that holds whatever the answer is
pub if_ok : {X E : Type 0} {P : Type 0} (r : Result X E) → P → IfOk r (λ _. P)
if_ok (Ok x) p = p
if_ok (Err e) p = tt
