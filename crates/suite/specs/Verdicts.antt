-- The verdict of calls that are made one after the other. Assumes nothing.
use Rattle.std.specs.Prelude.{ℕ, cond, eqb}

-- that of the first call which refuses, or 0
abbrev pub first_refusal : ℕ → ℕ → ℕ
first_refusal v next = cond (eqb v 0) next v
