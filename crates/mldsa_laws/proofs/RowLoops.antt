-- Loops over rows: below i row j is f j, from i on each is as the loop found it.
use Rattle.std.proofs.Common.{◌≡◌, ℕ, ◌+◌, ◌/◌, ◌%◌, ◌<◌, ◌≤◌, T, eqb, leb, List, [], length, set, sym, refl, ◌∙◌, subst, arith, lit<}
use Rattle.std.proofs.lemmas.List.{ext_get_or, length-set, get_or-set_other}
use Rattle.std.proofs.lemmas.Bool.{cond_both}
use Rattle.standards.specs.Lists.{tables, at, row_at, all_below}
use Rattle.standards.specs.MlDsaParts.{high_bits, make_hint_p, power2_round1_p, q}
use Rattle.algebra.specs.RowArrays.{RowsBelow, RowsAre}
use Rattle.algebra.proofs.Tables.{below_table, at_small}
use Rattle.algebra.proofs.Rows.{row_at_lem, length-tables}
use Rattle.algebra.proofs.RowArrays.{each_set}

pub record RowsDone (q : ℕ) (f : ℕ → List ℕ) (old : List (List ℕ)) (i : ℕ) (v : List (List ℕ)) : Type 0 where
  pub long : length v ≡ length old
  pub done : RowsAre i f v
  pub rest : (j : ℕ) → i ≤ j → row_at v j ≡ row_at old j
  pub below : RowsBelow q i v

pub rows_start : (q : ℕ) (f : ℕ → List ℕ) (old : List (List ℕ)) → RowsDone q f old 0 old
rows_start q f old = record { long = refl; done = λ j h. absurd (omega arith); rest = λ j h. refl; below = λ j h. absurd (omega arith) }

pub rows_next : (q : ℕ) (f : ℕ → List ℕ) (old : List (List ℕ)) (i : ℕ) (v : List (List ℕ)) (x : List ℕ) → i < length old → x ≡ f i → T (all_below q x) → RowsDone q f old i v → RowsDone q f old (i + 1) (set v i x)
rows_next q f old i v x h is small w =
    let room : i < length v = omega (arith, w.long) in
    record {
      long = length-set v i x ∙ w.long;
      done = each_set (λ j r. r ≡ f j) v i x room w.done is;
      rest = λ j l. get_or-set_other v i j x [] (λ e. omega arith) ∙ w.rest j (omega arith);
      below = each_set (λ j r. T (all_below q r)) v i x room w.below small;
    }

-- rows that are known are a table of rows
pub rows_are : (n : ℕ) (f : ℕ → List ℕ) (v : List (List ℕ)) → length v ≡ n → RowsAre n f v → v ≡ tables n f
rows_are n f v l h = ext_get_or [] v (tables n f) (l ∙ sym (length-tables n f)) (λ k less. let lt : k < n = omega (arith, l) in h k lt ∙ sym (row_at_lem n f k lt))

-- a row that the loop has not come to
pub rows_waiting : (q : ℕ) (f : ℕ → List ℕ) (old : List (List ℕ)) (i : ℕ) (v : List (List ℕ)) → i < length old → RowsBelow q (length old) old → RowsDone q f old i v → T (all_below q (row_at v i))
rows_waiting q f old i v h b w = subst (λ r. T (all_below q r)) (sym (w.rest i (omega arith))) (b i h)

-- ---- how large what rounding gives is
pub hints_small : (g : ℕ) (z r : List ℕ) → T (all_below 2 (make_hint_p g z r))
hints_small g z r =
    below_table 2 256 _ (λ i _. cond_both (eqb (high_bits g (at r i)) (high_bits g ((at r i + at z i) % q))) 0 1 (λ x. x < 2) (λ _. lit< tt) (λ _. lit< tt))

pub rounded_small : (f : List ℕ) → T (all_below 8380417 f) → T (all_below 8380417 (power2_round1_p f))
rounded_small f b =
    below_table 8380417 256 _ (λ i _. let l = at_small 8380417 f (lit< tt) b i in
    cond_both (leb (at f i % 8192) 4096) (at f i / 8192) (at f i / 8192 + 1) (λ x. x < 8380417) (λ _. omega arith) (λ _. omega arith))
