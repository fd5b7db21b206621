-- Polynomials of 256 numbers modulo q, in which x^256 is -1, and how large they are. Assumes nothing.
use Rattle.std.specs.Prelude.{◌≡◌, cond, List, [], ◌∷◌, ℕ, zero, suc, ◌+◌, ◌-◌, ◌*◌, ◌%◌, leb, ltb, T, length}
use Rattle.standards.specs.Lists.{table, at, sum_to, all_below}

-- 256 numbers below q
abbrev pub Poly : ℕ → List ℕ → Type 0
Poly q f = (length f ≡ 256) × T (all_below q f)

abbrev pub zero_p : List ℕ
zero_p = table 256 (λ i. 0)

-- b to the power n, modulo q
unfoldable pub power : ℕ → ℕ → ℕ → ℕ
power q b zero = 1 % q
power q b (suc n) = (b * power q b n) % q

-- sum and difference
abbrev pub add_p : ℕ → List ℕ → List ℕ → List ℕ
add_p q f g = table 256 (λ i. (at f i + at g i) % q)

abbrev pub sub_p : ℕ → List ℕ → List ℕ → List ℕ
sub_p q f g = table 256 (λ i. (at f i + (q - at g i % q)) % q)

-- f 0 + .. + f (n - 1)
unfoldable pub sum_p : ℕ → ℕ → (ℕ → List ℕ) → List ℕ
sum_p q zero f = zero_p
sum_p q (suc n) f = add_p q (f n) (sum_p q n f)

-- The product: number n collects f i times g j where i + j is n, and less f i times g j where i + j is n + 256.
abbrev pub mul_at : ℕ → List ℕ → List ℕ → ℕ → ℕ
mul_at q f g n = sum_to 256 (λ i. cond (leb i n) (at f i * at g (n - i)) (at f i * (q - at g ((n + 256) - i) % q))) % q

abbrev pub mul_p : ℕ → List ℕ → List ℕ → List ℕ
mul_p q f g = table 256 (mul_at q f g)

-- how far a number modulo q is from 0, the shorter way: the absolute value of x mod± q
abbrev pub magnitude : ℕ → ℕ → ℕ
magnitude q x = cond (leb (2 * x) q) x (q - x)

-- the infinity norm of a polynomial, and of a vector of them
unfoldable pub norm : ℕ → List ℕ → ℕ
norm q [] = 0
norm q (x ∷ xs) = let m = norm q xs in cond (ltb m (magnitude q x)) (magnitude q x) m

unfoldable pub norms : ℕ → List (List ℕ) → ℕ
norms q [] = 0
norms q (x ∷ xs) = let m = norms q xs in cond (ltb m (norm q x)) (norm q x) m
