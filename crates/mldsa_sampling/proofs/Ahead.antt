-- A stream that is read ahead.
use Rattle.std.proofs.Common.{◌≡◌, ℕ, ◌+◌, ◌-◌, ◌<◌, cond, ltb, List, length, sym, ap, ◌∙◌, ap₂, inl, inr, arith}
use Rattle.std.proofs.Math.Path.{fun_ext}
use Rattle.std.proofs.lemmas.Bool.{cond-true, cond-false, lt-ltb, le-ltb, cases_lt}
use Rattle.standards.specs.Lists.{table, at}
use Rattle.algebra.proofs.Tables.{at_table, length-table}
use Rattle.mldsa_sampling.specs.Ahead.{ahead}

-- a byte of the block, and what comes after it
pub ahead-byte : (block : List ℕ) (pos : ℕ) (s : ℕ → ℕ) → pos < length block → ahead block pos s 0 ≡ at block pos
ahead-byte block pos s h =
    cond-true _ _ _ (lt-ltb (pos + 0) (length block) (omega arith)) ∙ ap (at block) {x = pos + 0} {y = pos} (omega arith)

pub ahead_next : (block : List ℕ) (pos : ℕ) (s : ℕ → ℕ) → ahead block (pos + 1) s ≡ (λ i. ahead block pos s (1 + i))
ahead_next block pos s =
    fun_ext (λ i. ap (λ k. cond (ltb k (length block)) (at block k) (s (k - length block))) {x = pos + 1 + i} {y = pos + (1 + i)} (omega arith))

-- at the block's end the stream is still to come, and so it is at the beginning of a block that was read from it
pub ahead_end : (block : List ℕ) (pos : ℕ) (s : ℕ → ℕ) → pos ≡ length block → ahead block pos s ≡ s
ahead_end block pos s h =
    fun_ext (λ i. cond-false _ _ _ (le-ltb (pos + i) (length block) (omega arith)) ∙ ap s {x = pos + i - length block} {y = i} (omega arith))

pub ahead_read : (n : ℕ) (s : ℕ → ℕ) → ahead (table n s) 0 (λ i. s (n + i)) ≡ s
ahead_read n s = fun_ext (λ i. elim (cases_lt i n) [
  | inl l ↦ cond-true _ _ _ (lt-ltb (0 + i) (length (table n s)) (omega (arith, length-table n s))) ∙ (ap (at (table n s)) {x = 0 + i} {y = i} (omega arith) ∙ at_table n s i l)
  | inr l ↦ cond-false _ _ _ (le-ltb (0 + i) (length (table n s)) (omega (arith, length-table n s))) ∙ ap s {x = n + (0 + i - length (table n s))} {y = i} (omega (arith, length-table n s))
])

-- a block that was read at the end of another
pub ahead_refill : (block block' : List ℕ) (pos : ℕ) (s s' : ℕ → ℕ) → pos ≡ length block → block' ≡ table (length block) s → s' ≡ (λ i. s (length block + i)) → ahead block' 0 s' ≡ ahead block pos s
ahead_refill block block' pos s s' h b r = ap₂ (λ b s. ahead b 0 s) b r ∙ (ahead_read (length block) s ∙ sym (ahead_end block pos s h))
