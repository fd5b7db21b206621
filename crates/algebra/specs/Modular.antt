-- Numbers modulo q, and lists of them number by number. Assumes nothing.
use Rattle.std.specs.Prelude.{ℕ, ◌+◌, ◌-◌, ◌*◌, ◌%◌, List}
use Rattle.standards.specs.Lists.{table, at}

-- sum, difference and product modulo q
abbrev pub add_m : ℕ → ℕ → ℕ → ℕ
add_m q a b = (a + b) % q

abbrev pub sub_m : ℕ → ℕ → ℕ → ℕ
sub_m q a b = (a + (q - b % q)) % q

abbrev pub mul_m : ℕ → ℕ → ℕ → ℕ
mul_m q a b = (a * b) % q

-- products number by number, and by one factor
abbrev pub mul_each : ℕ → List ℕ → List ℕ → List ℕ
mul_each q f g = table 256 (λ i. mul_m q (at f i) (at g i))

abbrev pub scaled : ℕ → ℕ → List ℕ → List ℕ
scaled q c f = table 256 (λ i. mul_m q c (at f i))
