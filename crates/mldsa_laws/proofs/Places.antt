-- Places that are marked in a row of noughts, and read off again.
use Rattle.std.proofs.Common.{◌≡◌, ℕ, zero, suc, ◌+◌, ◌-◌, ◌<◌, ◌≤◌, T, eqb, ltb, List, [], ◌∷◌, ◌++◌, length, set, replicate, sym, refl, ap, ◌∙◌, subst, add-zero, zero-add, arith, ltb→lt}
use Rattle.std.proofs.lemmas.List.{append-nil, append_assoc, length-append, length-replicate, replicate-append-replicate, set_at}
use Rattle.std.proofs.lemmas.Bool.{ne_eqb, cond-false}
use Rattle.standards.specs.Lists.{from, table, all_below}
use Rattle.standards.specs.MlDsaParts.{places}
use Rattle.standards.specs.MlDsa.{rising, marked}
use Rattle.algebra.proofs.Tests.{both}

places_nought : (i : ℕ) (xs : List ℕ) → places i (0 ∷ xs) ≡ places (i + 1) xs
unfolding places
places_nought i xs = refl

places_mark : (i b : ℕ) (xs : List ℕ) → places i (suc b ∷ xs) ≡ i ∷ places (i + 1) xs
unfolding places
places_mark i b xs = cond-false (eqb (suc b) 0) (places (i + 1) xs) (i ∷ places (i + 1) xs) (ne_eqb (suc b) 0 (λ e. omega arith))

pub places_none : (i : ℕ) → places i [] ≡ []
unfolding places
places_none i = refl

pub places-append : (i : ℕ) (a b : List ℕ) → places i (a ++ b) ≡ places i a ++ places (i + length a) b
places-append i [] b = ap (λ j. places j b) (sym (add-zero i)) ∙ ap (λ xs. xs ++ places (i + 0) b) (sym (places_none i))
places-append i (zero ∷ a) b =
    let e : i + 1 + length a ≡ i + suc (length a) = omega arith in
    places_nought i (a ++ b) ∙ (places-append (i + 1) a b ∙ (ap (λ j. places (i + 1) a ++ places j b) e ∙ ap (λ xs. xs ++ places (i + suc (length a)) b) (sym (places_nought i a))))
places-append i (suc x ∷ a) b =
    let e : i + 1 + length a ≡ i + suc (length a) = omega arith in
    places_mark i x (a ++ b) ∙ (ap (λ xs. i ∷ xs) (places-append (i + 1) a b ∙ ap (λ j. places (i + 1) a ++ places j b) e) ∙ ap (λ xs. xs ++ places (i + suc (length a)) b) (sym (places_mark i x a)))

places_noughts : (i n : ℕ) → places i (replicate n 0) ≡ []
places_noughts i zero = places_none i
places_noughts i (suc n) = places_nought i (replicate n 0) ∙ places_noughts (i + 1) n

-- from a on, rising, below b
abbrev pub Rise : ℕ → ℕ → List ℕ → Type 0
Rise a b [] = Unit {0}
Rise a b (x ∷ xs) = (a ≤ x) × (x < b) × Rise (suc x) b xs

rise_from : (b x : ℕ) (xs : List ℕ) → T (rising (x ∷ xs)) → T (all_below b xs) → Rise (suc x) b xs
unfolding rising all_below
rise_from b x [] r h = tt
rise_from b x (y ∷ ys) r h =
    let p = both (ltb x y) (rising (y ∷ ys)) r in
    let q = both (ltb y b) (all_below b ys) h in
    (ltb→lt x y p.0, ltb→lt y b q.0, rise_from b y ys p.1 q.1)

pub rise : (b : ℕ) (xs : List ℕ) → T (rising xs) → T (all_below b xs) → Rise 0 b xs
unfolding all_below
rise b [] r h = tt
rise b (x ∷ xs) r h =
    let q = both (ltb x b) (all_below b xs) h in
    (omega arith, ltb→lt x b q.0, rise_from b x xs r q.1)

-- a mark in the noughts behind p
mark : (p : List ℕ) (n m x : ℕ) → length p + n ≡ x → set (p ++ replicate (n + suc m) 0) x 1 ≡ ((p ++ replicate n 0) ++ (1 ∷ [])) ++ replicate m 0
mark p n m x e =
    let len : length (p ++ replicate n 0) ≡ x = length-append p (replicate n 0) ∙ (ap (λ k. length p + k) (length-replicate n 0) ∙ e) in
    ap (λ zs. set (p ++ zs) x 1) (sym (replicate-append-replicate n (suc m) 0))
    ∙ (ap (λ zs. set zs x 1) (sym (append_assoc p (replicate n 0) (0 ∷ replicate m 0)))
    ∙ (set_at (p ++ replicate n 0) 0 (replicate m 0) 1 x len
    ∙ sym (append_assoc (p ++ replicate n 0) (1 ∷ []) (replicate m 0))))

pub marked_more : (x : ℕ) (xs c : List ℕ) → marked (x ∷ xs) c ≡ marked xs (set c x 1)
unfolding marked
marked_more x xs c = refl

pub marked_none : (c : List ℕ) → marked [] c ≡ c
unfolding marked
marked_none c = refl

pub noughts : (i n : ℕ) → from (λ j. 0) i n ≡ replicate n 0
unfolding from
noughts i zero = refl
noughts i (suc n) = ap (λ (xs : List ℕ). 0 ∷ xs) (noughts (i + 1) n)

-- what is marked, in rising order, is read off again
read_marks : (b : ℕ) (xs p : List ℕ) (m : ℕ) → length p + m ≡ b → Rise (length p) b xs → places 0 (marked xs (p ++ replicate m 0)) ≡ places 0 p ++ xs
read_marks b [] p m e r =
    ap (places 0) (marked_none (p ++ replicate m 0)) ∙ (places-append 0 p (replicate m 0) ∙ ap (λ zs. places 0 p ++ zs) (places_noughts (0 + length p) m))
read_marks b (x ∷ xs) p m e r =
    let lo : length p ≤ x = r.0 in
    let hi : x < b = r.1 in
    let n : ℕ = x - length p in
    let k : ℕ = b - suc x in
    let p' : List ℕ = (p ++ replicate n 0) ++ (1 ∷ []) in
    let split : m ≡ n + suc k = omega arith in
    let on : length p + n ≡ x = omega arith in
    let front : length (p ++ replicate n 0) ≡ x = length-append p (replicate n 0) ∙ (ap (λ j. length p + j) (length-replicate n 0) ∙ on) in
    let len : length p' ≡ suc x = length-append (p ++ replicate n 0) (1 ∷ []) ∙ (let z : length (p ++ replicate n 0) + 1 ≡ suc x = omega arith in z) in
    let seen : places 0 p' ≡ places 0 p ++ (x ∷ []) =
    places-append 0 (p ++ replicate n 0) (1 ∷ [])
    ∙ (ap (λ zs. zs ++ places (0 + length (p ++ replicate n 0)) (1 ∷ [])) (places-append 0 p (replicate n 0) ∙ (ap (λ zs. places 0 p ++ zs) (places_noughts (0 + length p) n) ∙ append-nil (places 0 p)))
    ∙ ap (λ zs. places 0 p ++ zs) (ap (λ j. places j (1 ∷ [])) (zero-add (length (p ++ replicate n 0)) ∙ front) ∙ (places_mark x 0 [] ∙ ap (λ zs. x ∷ zs) (places_none (x + 1))))) in
    ap (places 0) (marked_more x xs (p ++ replicate m 0) ∙ ap (marked xs) (ap (λ j. set (p ++ replicate j 0) x 1) split ∙ mark p n k x on))
    ∙ (read_marks b xs p' k (omega arith) (subst (λ j. Rise j b xs) (sym len) r.2)
    ∙ (ap (λ zs. zs ++ xs) seen ∙ append_assoc (places 0 p) (x ∷ []) xs))

pub places-marked : (n : ℕ) (xs : List ℕ) → Rise 0 n xs → places 0 (marked xs (table n (λ i. 0))) ≡ xs
places-marked n xs r =
    ap (λ zs. places 0 (marked xs zs)) (noughts 0 n) ∙ (read_marks n xs [] n (zero-add n) r ∙ ap (λ zs. zs ++ xs) (places_none 0))
