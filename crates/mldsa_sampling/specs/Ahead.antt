-- Bytes of a stream that were read ahead.
use Rattle.std.specs.Prelude.{ℕ, ◌+◌, ◌-◌, cond, List, length, nat_lt}
use Rattle.standards.specs.Lists.{at}
use Rattle.mldsa_sampling.specs.declared.read_ahead.ReadAhead.{ReadAhead}

-- what is still to come: the bytes of the block from pos on, and then the stream s
abbrev pub ahead : List ℕ → ℕ → (ℕ → ℕ) → ℕ → ℕ
ahead block pos s i = cond (nat_lt (pos + i) (length block)) (at block (pos + i)) (s (pos + i - length block))

-- the same of a stream that is read ahead, where `rest` says what a reader has left
abbrev pub to_come : {R : Type 0} → (R → ℕ → ℕ) → ReadAhead R → ℕ → ℕ
to_come rest s = ahead s.block s.pos (rest s.reader)
