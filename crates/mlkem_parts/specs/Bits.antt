-- A small number out of its bits.
use Rattle.std.specs.Prelude.{ℕ, ◌+◌, ◌-◌, ◌/◌, ◌%◌, ◌^◌}
use Rattle.standards.specs.Lists.{sum_to}

-- the sum of the first eta bits of v less that of the next eta, modulo q
abbrev pub bits_less : ℕ → ℕ → ℕ
bits_less eta v = (sum_to eta (λ j. (v / 2 ^ j) % 2) + (3329 - sum_to eta (λ j. (v / 2 ^ (eta + j)) % 2))) % 3329
