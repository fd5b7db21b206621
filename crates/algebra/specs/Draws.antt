-- All candidates val k, val (k + 1), .. that pass the test ok, among n of them. A draw takes the first of these.
use Rattle.std.specs.Prelude.{ℕ, zero, suc, ◌+◌, Bool, cond, List, [], ◌∷◌}

unfoldable pub accepted : (ℕ → Bool) → (ℕ → ℕ) → ℕ → ℕ → List ℕ
accepted ok val zero k = []
accepted ok val (suc n) k = cond (ok k) (val k ∷ accepted ok val n (k + 1)) (accepted ok val n (k + 1))
