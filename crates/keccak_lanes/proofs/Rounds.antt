-- The rounds that are left, one fewer.
use Rattle.std.proofs.Common.{◌≡◌, ℕ, ◌+◌, ◌<◌, List, drop, get_or, sym, ap, ◌∙◌}
use Rattle.std.proofs.lemmas.List.{at_drop_more}
use Rattle.standards.specs.Fips202.{round, rounds}
use Rattle.fips202_laws.proofs.Constants.{constants}

pub round_more : (a b : List ℕ) (i : ℕ) → i < 24 → b ≡ round (get_or constants i 0) a → rounds (drop (i + 1) constants) b ≡ rounds (drop i constants) a
unfolding rounds
round_more a b i h p = ap (rounds (drop (i + 1) constants)) p ∙ sym (at_drop_more (λ cs. rounds cs a) constants i 0 h)
