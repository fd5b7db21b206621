-- What the loop over the lines carries on.
use Rattle.std.proofs.Common.{◌≡◌, ℕ, ◌<◌, List, [], ◌++◌, length, Option, None, Some, Result, Ok, Err, OnOk, IfSome, IsSome, refl, sym, ap, ◌∙◌, append_assoc, append-nil}
use Rattle.std.specs.Io.BufRead.{drop_through, first_line, DropsThrough}
use Rattle.std.specs.Io.KnownBytes.{Appends, IsAtEnd}
use Rattle.std.specs.Str.Lines.{lines}
use Rattle.std.proofs.lemmas.Bool.{false≢true}
use Rattle.lines.specs.Answers.{Answered, AnswersLines}
use Rattle.lines.proofs.FirstLine.{lines_next}

-- the text's lines before the rest are answered
pub record Carried (answers : List ℕ → List ℕ → Type 0) (old new : Option (List ℕ)) (text rest : List ℕ) : Type 0 where
  pub done : List ℕ
  pub written : Appends old new done
  pub onward : (more : List ℕ) → Answered answers (lines rest) more → Answered answers (lines text) (done ++ more)

-- the same of the bytes that are known of the input: at first, and that are left
abbrev pub Carries : (List ℕ → List ℕ → Type 0) → Option (List ℕ) → Option (List ℕ) → Option (List ℕ) → Option (List ℕ) → Type 0
Carries answers old new input left = IfSome input (λ text. (rest : List ℕ) × (left ≡ Some rest) × Carried answers old new text rest)

pub some_text : {Q : Type 0} (o : Option (List ℕ)) → IsSome o → ((text : List ℕ) → o ≡ Some text → Q) → Q
some_text None h then = absurd (false≢true h)
some_text (Some text) h then = then text refl

-- what is known of a writer grows by nothing, or by one part after another
pub appends_nil : (known : Option (List ℕ)) → Appends known known []
appends_nil None = tt
appends_nil (Some xs) = sym (append-nil xs)

pub appends_append : (old mid new : Option (List ℕ)) (xs ys : List ℕ) → Appends old mid xs → Appends mid new ys → Appends old new (xs ++ ys)
appends_append None mid new xs ys a b = tt
appends_append (Some o) None new xs ys a b = absurd a
appends_append (Some o) (Some m) None xs ys a b = absurd b
appends_append (Some o) (Some m) (Some n) xs ys a b = b ∙ (ap (λ l. l ++ ys) a ∙ append_assoc o xs ys)

-- what was written before, and then a last part, if that could be written
pub appends_last : {A E : Type 0} (old mid new : Option (List ℕ)) (xs ys : List ℕ) (r : Result A E) → Appends old mid xs → OnOk r (Appends mid new ys) → OnOk r (Appends old new (xs ++ ys))
appends_last old mid new xs ys (Ok v) a b = appends_append old mid new xs ys a b
appends_last old mid new xs ys (Err e) a b = tt

module _ (answers : List ℕ → List ℕ → Type 0) where
  pub start : (known input left : Option (List ℕ)) → left ≡ input → Carries answers known known input left
  start known None left e = tt
  start known (Some text) left e = (text, e, record { done = []; written = appends_nil known; onward = λ more a. a })

  pub step : (old mid new input left next : Option (List ℕ)) (line shown : List ℕ) → Carries answers old mid input left
      → IfSome left (λ xs. (0 < length xs) × (line ≡ first_line xs)) → DropsThrough left next 10 → answers line shown → Appends mid new shown
      → Carries answers old new input next
  step old mid new None left next line shown c first drops a w = tt
  step old mid new (Some text) left next line shown (rest, is, c) first drops a w =
      let (some, line_is) = rw is at first in (
        drop_through 10 rest,
        rw is at drops,
        record {
          done = c.done ++ shown;
          written = appends_append old mid new c.done shown c.written w;
          onward = λ more b. rw (append_assoc c.done shown more) (c.onward (shown ++ more) (rw (lines_next rest some, ← line_is) (shown, more, a, b, refl)));
        },
      )

  pub end : (old new input left : Option (List ℕ)) → Carries answers old new input left → IsAtEnd left
      → AnswersLines answers input old new
  end old new None left c e = tt
  end old new (Some text) left (rest, is, c) e =
      let none : rest ≡ [] = rw is at e in
      (c.done, c.written, rw (append-nil c.done) at (c.onward [] (rw none refl)))
