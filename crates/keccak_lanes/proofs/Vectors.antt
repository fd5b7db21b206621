-- Lanes of what the operators on vectors give.
use Rattle.std.proofs.Common.{◌≡◌, ℕ, zero, suc, ◌-◌, ◌*◌, ◌/◌, ◌%◌, ◌^◌, ◌<◌, List, [], ◌∷◌, length, map, sym, refl, ap, ap₂, ◌∙◌, bit_or, arith, Fits, w64}
use Rattle.std.specs.Int.Bits.{bit_xor, bit_and}
use Rattle.std.specs.Simd.Lanes.{zip2, Each1}
use Rattle.std.proofs.lemmas.Simd.{get_or-zip2, length-zip2, Each1-get_or}
use Rattle.std.proofs.lemmas.Nat.{xor_lt}
use Rattle.std.proofs.lemmas.List.{get_or-map, length-map}
use Rattle.standards.specs.Lists.{at}
use Rattle.standards.specs.Fips202.{rotl}
use Rattle.fips202_laws.proofs.Rotations.{rotated}

pub zip_lane : (f : ℕ → ℕ → ℕ) (xs ys : List ℕ) (l : ℕ) → length xs ≡ 4 → length ys ≡ 4 → l < 4 → at (zip2 f xs ys) l ≡ f (at xs l) (at ys l)
zip_lane f xs ys l p q h = get_or-zip2 f xs ys l 0 0 0 (omega arith) (omega arith)

pub zip_len : (f : ℕ → ℕ → ℕ) (xs ys : List ℕ) → length xs ≡ 4 → length ys ≡ 4 → length (zip2 f xs ys) ≡ 4
zip_len f xs ys p q = length-zip2 f xs ys (p ∙ sym q) ∙ p

four : (n l : ℕ) → l < 4 → at (n ∷ n ∷ n ∷ n ∷ []) l ≡ n
four n zero h = refl
four n (suc zero) h = refl
four n (suc (suc zero)) h = refl
four n (suc (suc (suc zero))) h = refl
four n (suc (suc (suc (suc l)))) h = absurd (omega arith)

-- the other vector is one number four times
pub splat_lane : (f : ℕ → ℕ → ℕ) (xs : List ℕ) (n l : ℕ) → length xs ≡ 4 → l < 4 → at (zip2 f xs (n ∷ n ∷ n ∷ n ∷ [])) l ≡ f (at xs l) n
splat_lane f xs n l p h = zip_lane f xs (n ∷ n ∷ n ∷ n ∷ []) l p refl h ∙ ap (f (at xs l)) (four n l h)

pub xor_five : (a b c d e : List ℕ) (l : ℕ) → length a ≡ 4 → length b ≡ 4 → length c ≡ 4 → length d ≡ 4 → length e ≡ 4 → l < 4 →
    at (zip2 bit_xor a (zip2 bit_xor b (zip2 bit_xor c (zip2 bit_xor d e)))) l ≡ bit_xor (at a l) (bit_xor (at b l) (bit_xor (at c l) (bit_xor (at d l) (at e l))))
xor_five a b c d e l p q r s t h =
    let de = zip_len bit_xor d e s t in
    let cde = zip_len bit_xor c _ r de in
    let bcde = zip_len bit_xor b _ q cde in
    zip_lane bit_xor a _ l p bcde h
    ∙ ap (bit_xor (at a l)) (zip_lane bit_xor b _ l q cde h
    ∙ ap (bit_xor (at b l)) (zip_lane bit_xor c _ l r de h
    ∙ ap (bit_xor (at c l)) (zip_lane bit_xor d e l s t h)))

pub chosen_lane : (x y z : List ℕ) (l : ℕ) → length x ≡ 4 → length y ≡ 4 → length z ≡ 4 → l < 4 →
    at (zip2 bit_xor x (zip2 bit_and (map (λ v. 2 ^ 64 - 1 - v) y) z)) l ≡ bit_xor (at x l) (bit_and (2 ^ 64 - 1 - at y l) (at z l))
chosen_lane x y z l p q r h =
    let turn : ℕ → ℕ = λ v. 2 ^ 64 - 1 - v in
    let ny = length-map y turn ∙ q in
    zip_lane bit_xor x _ l p (zip_len bit_and _ z ny r) h
    ∙ ap (bit_xor (at x l)) (zip_lane bit_and _ z l ny r h
    ∙ ap (λ v. bit_and v (at z l)) (get_or-map turn y l 0 0 (omega arith)))

pub turned_lane : (x : List ℕ) (n l : ℕ) → length x ≡ 4 → Each1 (Fits w64) x → 0 < n → n < 64 → l < 4 →
    at (zip2 bit_or (zip2 (λ a b. (a * 2 ^ b) % 2 ^ 64) x (n ∷ n ∷ n ∷ n ∷ [])) (zip2 (λ a b. a / 2 ^ b) x ((64 - n) ∷ (64 - n) ∷ (64 - n) ∷ (64 - n) ∷ []))) l ≡ rotl (at x l) n
turned_lane x n l p fits pos low h =
    let up : ℕ → ℕ → ℕ = λ a b. (a * 2 ^ b) % 2 ^ 64 in
    let down : ℕ → ℕ → ℕ = λ a b. a / 2 ^ b in
    let small = (Each1-get_or (Fits w64) x l 0 (omega arith) fits).fits in
    let left : n % 64 ≡ n = omega arith in
    let right : (64 - n) % 64 ≡ 64 - n = omega arith in
    zip_lane bit_or _ _ l (zip_len up x (n ∷ n ∷ n ∷ n ∷ []) p refl) (zip_len down x ((64 - n) ∷ (64 - n) ∷ (64 - n) ∷ (64 - n) ∷ []) p refl) h
    ∙ (ap₂ bit_or (splat_lane up x n l p h) (splat_lane down x (64 - n) l p h)
    ∙ rw (left, right) at (rotated (at x l) n small low))

-- turned by nothing
pub still_lane : (x d : List ℕ) (l : ℕ) → length x ≡ 4 → length d ≡ 4 → Each1 (Fits w64) x → Each1 (Fits w64) d → l < 4 →
    at (zip2 bit_xor x d) l ≡ rotl (bit_xor (at x l) (at d l)) 0
still_lane x d l p q fits fits' h =
    let small = xor_lt 64 (at x l) (at d l) (Each1-get_or (Fits w64) x l 0 (omega arith) fits).fits (Each1-get_or (Fits w64) d l 0 (omega arith) fits').fits in
    zip_lane bit_xor x d l p q h ∙ omega arith
