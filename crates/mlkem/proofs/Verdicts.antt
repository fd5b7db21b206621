-- What a call answers, once its tests are known.
use Rattle.std.proofs.Common.{◌≡◌, ℕ, Bool, true, false, cond, not, ◌&&◌, ◌||◌, eqb, List, length, refl, subst, arith}
use Rattle.std.proofs.lemmas.Bool.Decides.{nat_tests}
use Rattle.std.proofs.lemmas.Bool.{eq-eqb}
use Rattle.standards.specs.Lists.{same}
use Rattle.standards.specs.Hashes.{Hashes}
use Rattle.standards.specs.MlKemParts.{KemSet}
use Rattle.standards.specs.MlKem.{check_ek, check_dk, ek_rho, matrix_drawn, rho_of, dk_ek, dk_hash, ek_length, dk_length, text_length}
use Rattle.standards.specs.Calls.{kem_of, is_set, kem_keys_verdict, encaps_verdict, decaps_verdict}
use Rattle.sets.specs.Sets.{number_of}
use Rattle.sets.specs.declared.types.Refusal.{Refusal}
use Rattle.sets.specs.declared.types.Refusal.TheVariants.{NoSet, Length, Key, Draw, Context, Attempts}

-- the shape alone: all tests pass
four : (set len good : Bool) (v : ℕ) → set ≡ true → len ≡ true → v ≡ 0 → good ≡ true →
    ◌≡◌ {A = ℕ} 0 (cond (not set) 1 (cond (not len || eqb v 1) 2 (cond (not (eqb v 0)) 3 (cond (not good) 4 0))))
four set len good v s l k d = rw (s, l, k, d) refl

pub encaps_goes : (h : Hashes) (s : ℕ) (ek : List ℕ) (n : ℕ) (p : KemSet) → p ≡ kem_of s → is_set s ≡ true →
    n ≡ text_length p → check_ek p ek ≡ 0 → matrix_drawn h p (ek_rho p ek) ≡ true → ◌≡◌ {A = ℕ} 0 (encaps_verdict h s ek n)
encaps_goes h s ek n p is set len key good =
    four (is_set s) (eqb n (text_length (kem_of s))) (matrix_drawn h (kem_of s) (ek_rho (kem_of s) ek)) (check_ek (kem_of s) ek) set
    (eq-eqb n (text_length (kem_of s)) (subst (λ (u : KemSet). n ≡ text_length u) is len))
    (subst (λ (u : KemSet). check_ek u ek ≡ 0) is key)
    (subst (λ (u : KemSet). matrix_drawn h u (ek_rho u ek) ≡ true) is good)

pub passed : (b : Bool) → ◌≡◌ {A = ℕ} 0 (cond b 0 1) → b ≡ true
passed true e = refl
passed false e = absurd (omega arith)

pub drawn : (b : Bool) → ◌≡◌ {A = ℕ} 0 (cond b 0 4) → b ≡ true
drawn true e = refl
drawn false e = absurd (omega arith)

pub key_passed : (v : ℕ) → ◌≡◌ {A = ℕ} 0 (cond (eqb v 1) 2 (cond (eqb v 0) 0 3)) → v ≡ 0
key_passed v e = grind (arith, nat_tests)

three : (set good : Bool) (v : ℕ) → set ≡ true → v ≡ 0 → good ≡ true →
    ◌≡◌ {A = ℕ} 0 (cond (not set) 1 (cond (eqb v 1) 2 (cond (not (eqb v 0)) 3 (cond (not good) 4 0))))
three set good v s k d = rw (s, k, d) refl

-- the two lengths are right, and so is the hash
checked : (long text good : Bool) → text ≡ true → ◌≡◌ {A = ℕ} 0 (cond long (cond good 0 3) 2) → ◌≡◌ {A = ℕ} (cond (not (long && text)) 1 (cond (not good) 3 0)) 0
checked true text true t e = rw t refl
checked true text false t e = absurd (omega arith)
checked false text good t e = absurd (omega arith)

pub decaps_goes : (h : Hashes) (s : ℕ) (dk c : List ℕ) (p : KemSet) → p ≡ kem_of s → is_set s ≡ true → length c ≡ text_length p →
    ◌≡◌ {A = ℕ} 0 (cond (eqb (length dk) (dk_length p)) (cond (same (h.sha3_256 (dk_ek p dk)) (dk_hash p dk)) 0 3) 2) → matrix_drawn h p (ek_rho p (dk_ek p dk)) ≡ true →
    ◌≡◌ {A = ℕ} 0 (decaps_verdict h s dk c)
decaps_goes h s dk c p is set m key good =
    three (is_set s) (matrix_drawn h (kem_of s) (ek_rho (kem_of s) (dk_ek (kem_of s) dk))) (check_dk h (kem_of s) dk c) set
    (subst (λ (u : KemSet). check_dk h u dk c ≡ 0) is (checked (eqb (length dk) (dk_length p)) (eqb (length c) (text_length p)) (same (h.sha3_256 (dk_ek p dk)) (dk_hash p dk)) (eq-eqb _ _ m) key))
    (subst (λ (u : KemSet). matrix_drawn h u (ek_rho u (dk_ek u dk)) ≡ true) is good)

-- the two lengths are right, and the draw decides
two : (set ek dk good : Bool) (v : ℕ) → set ≡ true → ek ≡ true → dk ≡ true → v ≡ cond good 0 4 → v ≡ cond (not set) 1 (cond (not (ek && dk)) 2 (cond (not good) 4 0))
two set ek dk true v s a b e = rw (s, a, b) e
two set ek dk false v s a b e = rw (s, a, b) e

pub keys_go : (h : Hashes) (s : ℕ) (d : List ℕ) (ek dk v : ℕ) (p : KemSet) → p ≡ kem_of s → is_set s ≡ true → ek ≡ ek_length p → dk ≡ dk_length p →
    v ≡ cond (matrix_drawn h p (rho_of h p d)) 0 4 → v ≡ kem_keys_verdict h s d ek dk
keys_go h s d ek dk v p is set e f drawn =
    subst (λ (u : KemSet). v ≡ cond (not (is_set s)) 1 (cond (not (eqb ek (ek_length u) && eqb dk (dk_length u))) 2 (cond (not (matrix_drawn h u (rho_of h u d))) 4 0))) is
    (two (is_set s) (eqb ek (ek_length p)) (eqb dk (dk_length p)) (matrix_drawn h p (rho_of h p d)) v set (eq-eqb _ _ e) (eq-eqb _ _ f) drawn)

-- a refusal has a number other than 0
some : (e : Refusal) → number_of e ≡ 0 → ⊥
some NoSet e = absurd (omega arith)
some Length e = absurd (omega arith)
some Key e = absurd (omega arith)
some Draw e = absurd (omega arith)
some Context e = absurd (omega arith)
some Attempts e = absurd (omega arith)

-- the length of the key or its hash is wrong
stopped : (set long text good : Bool) (e : Refusal) (rest : ℕ) → set ≡ true → text ≡ true → number_of e ≡ cond long (cond good 0 3) 2 →
    (let v : ℕ = cond (not (long && text)) 1 (cond (not good) 3 0) in number_of e ≡ cond (not set) 1 (cond (eqb v 1) 2 (cond (not (eqb v 0)) 3 rest)))
stopped set true text true e rest s t n = absurd (some e n)
stopped set true text false e rest s t n = rw (s, t) n
stopped set false text good e rest s t n = rw s n

pub decaps_stops : (h : Hashes) (s : ℕ) (dk c : List ℕ) (e : Refusal) (p : KemSet) → p ≡ kem_of s → is_set s ≡ true → length c ≡ text_length p →
    number_of e ≡ cond (eqb (length dk) (dk_length p)) (cond (same (h.sha3_256 (dk_ek p dk)) (dk_hash p dk)) 0 3) 2 → number_of e ≡ decaps_verdict h s dk c
decaps_stops h s dk c e p is set m n =
    subst (λ (u : KemSet). number_of e ≡ cond (not (is_set s)) 1 (cond (eqb (check_dk h u dk c) 1) 2 (cond (not (eqb (check_dk h u dk c) 0)) 3
    (cond (not (matrix_drawn h u (ek_rho u (dk_ek u dk)))) 4 0)))) is
    (stopped (is_set s) (eqb (length dk) (dk_length p)) (eqb (length c) (text_length p)) (same (h.sha3_256 (dk_ek p dk)) (dk_hash p dk)) e _ set (eq-eqb _ _ m) n)
