-- A hint part that passes its check is what its rows, packed again, give.
use Rattle.std.proofs.Common.{◌≡◌, ℕ, zero, suc, ◌+◌, ◌-◌, ◌<◌, ◌≤◌, T, List, ◌∷◌, ◌++◌, length, get_or, take, drop, sym, refl, ap, ◌∙◌, subst, ap₂, add-zero, zero-add, arith, length-drop, take-add}
use Rattle.std.proofs.Math.Nat.{sub-zero}
use Rattle.std.proofs.lemmas.List.{length-take-le, drop-drop, take-append-drop, get_or-drop}
use Rattle.standards.specs.Lists.{from, table, rows, tables, all_below}
use Rattle.standards.specs.MlDsaParts.{DsaSet, places, all_places, row_ends, hint_bit_pack}
use Rattle.standards.specs.MlDsa.{hint_part, hint_end, hint_begin, hint_places, hint_row, hints_rise, hint_padding_zero}
use Rattle.algebra.proofs.Tables.{is_table, table_same, at_below, below_take, below_drop}
use Rattle.mldsa_laws.proofs.Places.{rise, places-marked}
use Rattle.mldsa_laws.proofs.HintCounts.{begin_later, begin_next, good_at}

-- row j tells the places from begin j to begin (j + 1)
pub record Tells (hp : List ℕ) (begin : ℕ → ℕ) (row : ℕ → List ℕ) (j : ℕ) : Type 0 where
  pub up : begin j ≤ begin (j + 1)
  pub within : begin (j + 1) ≤ length hp
  pub told : places 0 (row j) ≡ take (begin (j + 1) - begin j) (drop (begin j) hp)

pub all_places_lem : (hp : List ℕ) (begin : ℕ → ℕ) (row : ℕ → List ℕ) (i n : ℕ) → ((j : ℕ) → i ≤ j → j < i + n → Tells hp begin row j) →
    (begin i ≤ begin (i + n)) × (all_places (rows row i n) ≡ take (begin (i + n) - begin i) (drop (begin i) hp))
unfolding all_places rows
all_places_lem hp begin row i zero h =
    let same : begin (i + 0) ≡ begin i = ap begin (add-zero i) in
    let none : begin (i + 0) - begin i ≡ 0 = omega arith in
    (omega arith, ap (λ k. take k (drop (begin i) hp)) (sym none))
all_places_lem hp begin row i (suc n) h =
    let t = h i (omega arith) (omega arith) in
    let r = all_places_lem hp begin row (i + 1) n (λ j lo hi. h j (omega arith) (omega arith)) in
    let same : i + 1 + n ≡ i + suc n = omega arith in
    let last : begin (i + 1 + n) ≡ begin (i + suc n) = ap begin same in
    let up : begin i ≤ begin (i + 1) = t.up in
    let more : begin (i + 1) ≤ begin (i + 1 + n) = r.0 in
    let x : ℕ = begin (i + 1) - begin i in
    let y : ℕ = begin (i + 1 + n) - begin (i + 1) in
    let sum : x + y ≡ begin (i + suc n) - begin i = omega arith in
    let on : begin i + x ≡ begin (i + 1) = omega arith in (
      omega arith,
      ap₂ (λ (a b : List ℕ). a ++ b) t.told (r.1 ∙ (ap (λ k. take y (drop k hp)) (sym on) ∙ ap (take y) (sym (drop-drop x (begin i) hp))))
          ∙ (sym (take-add x y (drop (begin i) hp)) ∙ ap (λ k. take k (drop (begin i) hp)) sum),
    )

pub all_ends : (hp : List ℕ) (begin : ℕ → ℕ) (row : ℕ → List ℕ) (i n : ℕ) → ((j : ℕ) → i ≤ j → j < i + n → Tells hp begin row j) →
    row_ends (begin i) (rows row i n) ≡ from (λ j. begin (j + 1)) i n
unfolding row_ends rows from
all_ends hp begin row i zero h = refl
all_ends hp begin row i (suc n) h =
    let t = h i (omega arith) (omega arith) in
    let up : begin i ≤ begin (i + 1) = t.up in
    let within : begin (i + 1) ≤ length hp = t.within in
    let len : length (places 0 (row i)) ≡ begin (i + 1) - begin i = ap length t.told ∙ length-take-le (begin (i + 1) - begin i) (drop (begin i) hp) (simp length-drop (omega arith)) in
    let next : begin i + length (places 0 (row i)) ≡ begin (i + 1) = omega arith in
    ap₂ (λ (a : ℕ) (b : List ℕ). a ∷ b) next (ap (λ k. row_ends k (rows row (i + 1) n)) next ∙ all_ends hp begin row (i + 1) n (λ j lo hi. h j (omega arith) (omega arith)))

-- the hint part, whole
pub hints_again : (p : DsaSet) (s : List ℕ) → 0 < p.k → length (hint_part p s) ≡ p.omega + p.k → T (all_below 256 (hint_part p s)) →
    T (hints_rise p s p.k) → T (hint_padding_zero p s) → hint_bit_pack p (tables p.k (λ i. hint_row p s i)) ≡ hint_part p s
hints_again p s pos long bytes good rest =
    let hp : List ℕ = hint_part p s in
    let begin : ℕ → ℕ = hint_begin p s in
    let row : ℕ → List ℕ = λ i. hint_row p s i in
    let hs : List (List ℕ) = tables p.k row in
    let w : ℕ = p.omega in
    let e : ℕ = begin p.k in
    let each : (j : ℕ) → 0 ≤ j → j < 0 + p.k → Tells hp begin row j = λ j lo hi. (
    let g = good_at p s p.k good j (omega arith) in
    let next : begin (j + 1) ≡ hint_end p s j = begin_next p s j in
    let up : hint_begin p s j ≤ hint_end p s j = g.0 in
    let in' : hint_end p s j ≤ p.omega = g.1 in
    let xs : List ℕ = hint_places p s j in
    let room : hint_end p s j - hint_begin p s j ≤ length (drop (hint_begin p s j) hp) = omega (arith, length-drop (hint_begin p s j) hp) in
    let len : length xs ≡ hint_end p s j - hint_begin p s j = length-take-le (hint_end p s j - hint_begin p s j) (drop (hint_begin p s j) hp) room in
    let small : T (all_below 256 xs) = below_take 256 (hint_end p s j - hint_begin p s j) (drop (hint_begin p s j) hp) (below_drop 256 (hint_begin p s j) hp bytes) in
    record {
      up = omega arith;
      within = omega arith;
      told = places-marked 256 xs (rise 256 xs g.2 small) ∙ ap (λ v. take (v - begin j) (drop (begin j) hp)) (sym next);
    }) in
    let all = all_places_lem hp begin row 0 p.k each in
    let now : begin (0 + p.k) ≡ e = ap begin (zero-add p.k) in
    let marks : all_places hs ≡ take e hp = all.1 ∙ ap (λ v. take v hp) (sub-zero (begin (0 + p.k)) ∙ now) in
    let last : e ≡ hint_end p s (p.k - 1) = begin_later p s p.k pos in
    let fits : hint_end p s (p.k - 1) ≤ p.omega = (good_at p s p.k good (p.k - 1) (omega arith)).1 in
    let count : length (all_places hs) ≡ e = ap length marks ∙ length-take-le e hp (omega arith) in
    let zeros : List ℕ = take (w - e) (drop e hp) in
    let len : length zeros ≡ w - e = length-take-le (w - e) (drop e hp) (omega (arith, length-drop e hp)) in
    let rest' : T (all_below 1 zeros) = subst (λ v. T (all_below 1 (take (w - v) (drop v hp)))) (sym last) rest in
    let is-zeros : zeros ≡ table (w - e) (λ i. 0) = is_table (w - e) (λ i. 0) zeros len (λ k l. let z : get_or zeros k 0 < 1 = at_below 1 zeros k rest' (omega arith) in omega arith) in
    let tail : row_ends 0 hs ≡ drop w hp =
    all_ends hp begin row 0 p.k each ∙ (table_same p.k (λ j. begin (j + 1)) (λ j. hint_end p s j) (λ j l. begin_next p s j)
    ∙ sym (is_table p.k (λ j. hint_end p s j) (drop w hp) (length-drop w hp ∙ (let z : length hp - w ≡ p.k = omega arith in z)) (λ j l. get_or-drop w hp j 0))) in
    let full : e + (w - e) ≡ w = omega arith in
    ap₂ (λ (a b : List ℕ). a ++ b)
    (ap₂ (λ (a b : List ℕ). a ++ b) marks (ap (λ v. table (w - v) (λ i. 0)) count ∙ sym is-zeros) ∙ (sym (take-add e (w - e) hp) ∙ ap (λ v. take v hp) full)) tail
    ∙ take-append-drop w hp
