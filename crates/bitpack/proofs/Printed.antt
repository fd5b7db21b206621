-- One number more of those that are printed.
use Rattle.std.proofs.Common.{◌≡◌, ℕ, ◌+◌, ◌<◌, ◌≤◌, List, [], ◌∷◌, ◌++◌, length, map, drop, get_or, codes, refl, ap, ◌∙◌, append_assoc, append-nil}
use Rattle.std.specs.Prelude.{decimal}
use Rattle.std.proofs.lemmas.List.{drop_more, drop_all}
use Rattle.bitpack.specs.Answers.{behind}

module _ {A : Type 0} (value : A → ℕ) (rest : List A) (i : ℕ) where
  pub behind_from : (x : A) → i < length rest → behind (map value (drop i rest)) ≡ 32 ∷ (decimal (value (get_or rest i x)) ++ behind (map value (drop (i + 1) rest)))
  unfolding behind
  behind_from x h = ap (λ l. behind (map value l)) (drop_more rest i x h)

  pub behind_end : length rest ≤ i → behind (map value (drop i rest)) ≡ []
  unfolding behind
  behind_end h = ap (λ l. behind (map value l)) (drop_all i rest h)

pub ruleset printed_steps = (behind_from, behind_end, append_assoc, append-nil)
