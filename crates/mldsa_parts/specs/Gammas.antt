-- The two numbers gamma2 by which high and low bits go.
use Rattle.std.specs.Prelude.{◌≡◌, ℕ, ◌⊎◌}

abbrev pub IsGamma2 : ℕ → Type 0
IsGamma2 g = (g ≡ 95232) ⊎ (g ≡ 261888)
