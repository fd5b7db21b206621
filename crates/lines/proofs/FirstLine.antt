-- The first line of a text, as a reader gives it, and the lines after it.
use Rattle.std.proofs.Common.{◌≡◌, ℕ, zero, suc, ◌-◌, ◌<◌, ◌≢◌, ◌⊎◌, inl, inr, true, false, cond, eqb, List, [], ◌∷◌, ◌++◌, length, get_or, take, refl, sym, ap, ap₂, ◌∙◌, arith}
use Rattle.std.specs.Io.BufRead.{take_through, drop_through, ends_with_byte, strip_last, first_line}
use Rattle.std.specs.List.{slice_split}
use Rattle.std.specs.Str.Lines.{lines, lines_of_parts, strip_carriage_return}
use Rattle.std.proofs.lemmas.Bool.Decides.{eqb_tells, nat_tests}
use Rattle.std.proofs.lemmas.Grind.{common_steps}
use Rattle.std.proofs.Math.Dec.{eqb-suc-zero}

abbrev parts : List ℕ → List (List ℕ)
parts text = slice_split (λ b. eqb b 10) text

-- a text with no newline
record Whole (text : List ℕ) : Type 0 where
  taken : take_through 10 text ≡ text
  left : drop_through 10 text ≡ []
  cut : parts text ≡ text ∷ []
  none : (k : ℕ) → k < length text → get_or text k 0 ≢ 10

-- a text with a newline after its front
record Parted (text : List ℕ) : Type 0 where
  front : List ℕ
  rest : List ℕ
  taken : take_through 10 text ≡ front ++ 10 ∷ []
  left : drop_through 10 text ≡ rest
  cut : parts text ≡ front ∷ parts rest

whole_or_parted : (text : List ℕ) → Whole text ⊎ Parted text
whole_or_parted [] = inl (record { taken = refl; left = refl; cut = refl; none = λ k h. absurd (omega arith) })
whole_or_parted (x ∷ xs) = elim (eqb_tells x 10) [
  | inl (hit, is) ↦ inr (record { front = []; rest = xs; taken = rw hit (ap (λ b. b ∷ []) is); left = rw hit; cut = rw hit })
  | inr (miss, differs) ↦ elim (whole_or_parted xs) [
    | inl w ↦ inl (record {
      taken = rw (miss, w.taken);
      left = rw (miss, w.left);
      cut = rw (miss, w.cut);
      none = λ k h. none_more x xs differs w.none k h;
    })
    | inr p ↦ inr (record { front = x ∷ p.front; rest = p.rest; taken = rw (miss, p.taken); left = rw (miss, p.left); cut = rw (miss, p.cut) })
  ]
]
  where
    none_more : (x : ℕ) (xs : List ℕ) → x ≢ 10 → ((k : ℕ) → k < length xs → get_or xs k 0 ≢ 10) → (k : ℕ) → k < length (x ∷ xs) → get_or (x ∷ xs) k 0 ≢ 10
    none_more x xs d n zero h = d
    none_more x xs d n (suc k) h = n k (omega arith)

some_part : (text : List ℕ) → (part : List ℕ) × (more : List (List ℕ)) × (parts text ≡ part ∷ more)
some_part text = elim (whole_or_parted text) [ inl w ↦ (text, [], w.cut) | inr p ↦ (p.front, parts p.rest, p.cut) ]

no_end : (text : List ℕ) → ((k : ℕ) → k < length text → get_or text k 0 ≢ 10) → 0 < length text → ends_with_byte 10 text ≡ false
no_end text none h = grind (arith, nat_tests, none (length text - 1) (omega arith))

is_end : (front : List ℕ) → ends_with_byte 10 (front ++ 10 ∷ []) ≡ true
is_end front = grind (arith, common_steps)

ended : (front : List ℕ) → take (length (front ++ 10 ∷ []) - 1) (front ++ 10 ∷ []) ≡ front
ended front = grind (arith, common_steps)

stripped : (front : List ℕ) → strip_last 13 front ≡ strip_carriage_return front
stripped [] = refl
stripped (x ∷ xs) = grind (arith, common_steps)

-- the line in what is taken up to a newline
abbrev line_in : List ℕ → List ℕ
line_in taken = cond (ends_with_byte 10 taken) (strip_last 13 (strip_last 10 taken)) (strip_last 10 taken)

whole_line : (text : List ℕ) → ends_with_byte 10 text ≡ false → line_in text ≡ text
whole_line text e = rw e refl

parted_line : (front : List ℕ) → line_in (front ++ 10 ∷ []) ≡ strip_carriage_return front
parted_line front = rw (is_end front, ended front) (stripped front)

some_lines : (text : List ℕ) → 0 < length text → lines_of_parts (text ∷ []) ≡ text ∷ []
some_lines [] h = absurd (omega arith)
some_lines (x ∷ xs) h = rw (eqb-suc-zero (length xs)) refl

parted_lines : (front rest : List ℕ) → lines_of_parts (front ∷ parts rest) ≡ strip_carriage_return front ∷ lines rest
parted_lines front rest = let (part, more, is) = some_part rest in rw is refl

pub lines_next : (text : List ℕ) → 0 < length text → lines text ≡ first_line text ∷ lines (drop_through 10 text)
lines_next text h = elim (whole_or_parted text) [
  | inl w ↦ ap lines_of_parts w.cut ∙ (some_lines text h ∙ ap₂ (λ l ls. l ∷ ls) (sym (ap line_in w.taken ∙ whole_line text (no_end text w.none h))) (sym (ap lines w.left)))
  | inr p ↦ ap lines_of_parts p.cut ∙ (parted_lines p.front p.rest ∙ ap₂ (λ l ls. l ∷ ls) (sym (ap line_in p.taken ∙ parted_line p.front)) (sym (ap lines p.left)))
]
