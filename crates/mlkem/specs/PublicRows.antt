-- A row of t from the rows that the code holds.
use Rattle.std.specs.Prelude.{ℕ, ◌+◌, ◌*◌, List}
use Rattle.standards.specs.Lists.{row_at}
use Rattle.standards.specs.Ring.{add_p, sum_p}
use Rattle.standards.specs.Hashes.{Hashes}
use Rattle.standards.specs.MlKemParts.{ntt, multiply_ntts}
use Rattle.standards.specs.MlKem.{small}

abbrev pub t_row : Hashes → ℕ → ℕ → List ℕ → List (List ℕ) → List (List ℕ) → ℕ → List ℕ
t_row h k eta sigma a s i = add_p 3329 (sum_p 3329 k (λ j. multiply_ntts (row_at a (k * i + 1 * j)) (row_at s j))) (ntt (small h eta sigma (k + i)))
