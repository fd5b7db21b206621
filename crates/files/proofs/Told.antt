-- What the answers of the programs share.
use Rattle.std.proofs.Common.{◌≡◌, ℕ, Bool, true, false, cond, not, ◌&&◌, ◌||◌, List, Option, Result, Vec}
use Rattle.standards.specs.Calls.{is_set}
use Rattle.files.specs.declared.problem.Problem.{Problem}
use Rattle.files.specs.Texts.{set_of, unreadable, bytes_in, fits, refusal_line, first_of}
use Rattle.files.specs.Dsa.{good_or_bad}
use Rattle.files.specs.Problems.{Answers}

-- with no cause before it the answer is the call's
pub passes : {Z : Type 0} (r : Result (Vec ℕ Z) Problem) (call : ℕ → List ℕ → List ℕ → List ℕ) (set : List ℕ) (a b : Option (List ℕ)) {n : ℕ} {x y : List ℕ} {t : Bool} → Answers r (call n x y) → n ≡ set_of set → is_set n ≡ true → unreadable a || unreadable b ≡ false → t ≡ true → x ≡ bytes_in a → y ≡ bytes_in b → Answers r (first_of set (unreadable a || unreadable b) t (call (set_of set) (bytes_in a) (bytes_in b)))
passes r call set a b h s i f e p q = rw (← s, i, f, e, ← p, ← q) h

-- a check of four files
pub checks : (call : List ℕ → List ℕ → List ℕ → List ℕ → Bool) (a b c d : Option (List ℕ)) {w x y z text : List ℕ} {good : Bool} → text ≡ good_or_bad good → good ≡ call w x y z → unreadable a || unreadable b ≡ false → unreadable c || unreadable d ≡ false →
    fits a ≡ true → fits b ≡ true → fits c ≡ true → fits d ≡ true → w ≡ bytes_in a → x ≡ bytes_in b → y ≡ bytes_in c → z ≡ bytes_in d →
    text ≡ cond ((unreadable a || unreadable b) || (unreadable c || unreadable d)) (refusal_line 7) (cond (not (fits a && fits b && fits c && fits d)) (refusal_line 2) (good_or_bad (call (bytes_in a) (bytes_in b) (bytes_in c) (bytes_in d))))
checks call a b c d t g r s f1 f2 f3 f4 e1 e2 e3 e4 = rw (r, s, f1, f2, f3, f4, ← e1, ← e2, ← e3, ← e4, ← g) t

-- an answer for a set that there is
pub of_set : (P : List ℕ → Type 0) (call : ℕ → List ℕ) (set other : List ℕ) {n : ℕ} → n ≡ set_of set → is_set n ≡ true → P (call n) → P (cond (is_set (set_of set)) (call (set_of set)) other)
of_set P call set other s i h = rw (← s, i) h
