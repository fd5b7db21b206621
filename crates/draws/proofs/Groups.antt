-- What is kept of groups of candidates, one by one and by blocks of the stream.
use Rattle.std.proofs.Common.{◌≡◌, ℕ, ◌+◌, ◌-◌, ◌*◌, ◌<◌, ◌≤◌, T, Bool, true, List, [], ◌++◌, length, take, drop, sym, ap, ◌∙◌, subst, ap₂, arith}
use Rattle.standards.specs.Lists.{table, at, all_below}
use Rattle.algebra.specs.Draws.{accepted}
use Rattle.algebra.proofs.Parts.{part_table}
use Rattle.algebra.proofs.Draws.{accepted_add, accepted-same, length-accepted, draw_below}
use Rattle.hash.specs.Streams.{later}
use Rattle.draws.specs.Kept.{kept, drawn}

module _ (fits : ℕ → Bool) (number : ℕ → ℕ) where
  pub kept-none : (x : ℕ → ℕ) (n : ℕ) → n ≡ 0 → kept fits number x n ≡ []
  unfolding accepted
  kept-none x n e = ap (kept fits number x) e

  pub length-kept : (x : ℕ → ℕ) (n : ℕ) → length (kept fits number x n) ≤ n
  length-kept x n = length-accepted (λ k. fits (x k)) (λ k. number (x k)) n 0

  pub drawn_below : (q : ℕ) → ((x : ℕ) → fits x ≡ true → number x < q) → (x : ℕ → ℕ) (n : ℕ) (xs : List ℕ) → xs ≡ drawn fits number x n → T (all_below q xs)
  drawn_below q small x n xs e = subst (λ ys. T (all_below q ys)) (sym e) (draw_below q (λ k. fits (x k)) (λ k. number (x k)) (λ k. small (x k)) n 0 256)

  -- n candidates more, counted from 0 too
  pub kept-add : (x y : ℕ → ℕ) (m n : ℕ) → ((k : ℕ) → k < n → x (m + k) ≡ y k) → kept fits number x (m + n) ≡ kept fits number x m ++ kept fits number y n
  kept-add x y m n same =
      let is : (k : ℕ) → k < n → x (0 + m + k) ≡ y (0 + k) = λ k l. ap x {x = 0 + m + k} {y = m + k} (omega arith) ∙ (same k l ∙ ap y {x = k} {y = 0 + k} (omega arith)) in
      accepted_add (λ k. fits (x k)) (λ k. number (x k)) m n 0 ∙
      ap (λ ys. kept fits number x m ++ ys) (accepted-same (λ k. fits (x k)) (λ k. fits (y k)) (λ k. number (x k)) (λ k. number (y k)) n (0 + m) 0 (λ k l. ap fits (is k l)) (λ k l. ap number (is k l)))

  module _ (candidate : (ℕ → ℕ) → ℕ → ℕ) (bytes each : ℕ) (of_block : (s : ℕ → ℕ) (m n k : ℕ) → k < each * n → candidate s (each * m + k) ≡ candidate (at (table (bytes * n) (later (bytes * m) s))) k) where
    -- a block of n groups more
    pub block_next : (s : ℕ → ℕ) (m n : ℕ) → kept fits number (candidate s) (each * m) ++ kept fits number (candidate (at (table (bytes * n) (later (bytes * m) s)))) (each * n) ≡ kept fits number (candidate s) (each * (m + n))
    block_next s m n =
        sym (ap (kept fits number (candidate s)) {x = each * (m + n)} {y = each * m + each * n} (omega arith) ∙ kept-add (candidate s) (candidate (at (table (bytes * n) (later (bytes * m) s)))) (each * m) (each * n) (of_block s m n))

    -- a group more of a block, as the code lends it
    pub group_next : (block : List ℕ) (g a b : ℕ) → a ≡ bytes * g → b ≡ bytes * (g + 1) → b ≤ length block →
        kept fits number (candidate (at block)) (each * g) ++ kept fits number (candidate (at (take (b - a) (drop a block)))) each ≡ kept fits number (candidate (at block)) (each * (g + 1))
    group_next block g a b start end h =
        let one : each ≡ each * 1 = omega arith in
        let group : take (b - a) (drop a block) ≡ table (bytes * 1) (later (bytes * g) (at block)) =
        ap₂ (λ m n. take m (drop n block)) {x = b - a} {y = bytes * 1} (omega arith) start ∙ part_table block (bytes * g) (bytes * 1) (omega arith) in
        ap₂ (λ x n. kept fits number (candidate (at block)) (each * g) ++ kept fits number (candidate (at x)) n) group one ∙ block_next (at block) g 1
