-- What the loop over the words that write numbers carries on.
use Rattle.std.proofs.Common.{◌≡◌, ℕ, ◌+◌, ◌<◌, ◌≤◌, ◌^◌, ◌≢◌, Bool, true, false, cond, List, [], ◌∷◌, ◌++◌, length, map, set, take, Result, Ok, Err, eqb, nat_lt, refl, sym, ap, ◌∙◌, append_assoc, append-nil, subst, arith, length-append, length-set}
use Rattle.std.proofs.lemmas.Bool.Decides.{nat_tests}
use Rattle.std.proofs.lemmas.List.{map-set, take_more_set, take_all}
use Rattle.lines.specs.Problems.{◌>>=◌}
use Rattle.bitpack.specs.Answers.{number_of, all_of, numbers_of}
use Rattle.bitpack.specs.declared.problem.Problem.{Problem}
use Rattle.bitpack.specs.declared.problem.Problem.TheVariants.{Numbers}
use Rattle.bitpack.proofs.Parsed.{number_has_room}

abbrev Numbers_in : Type 0
Numbers_in = Result (List ℕ) Problem

-- numbers before others
abbrev before : List ℕ → Numbers_in → Numbers_in
before done r = r >>= λ xs. Ok (done ++ xs)

-- n words before those that are left are numbers of d bits, and as many of these as there is room for stand in the row
pub record Gathered (d : ℕ) (words left : List (List ℕ)) (n : ℕ) (row : List ℕ) : Type 0 where
  pub done : List ℕ
  pub count : length done ≡ n
  pub counted : n + length left ≡ length words
  pub onward : all_of d words ≡ before done (all_of d left)
  pub stored : n ≤ 256 → take n row ≡ done

before_more : (done : List ℕ) (x : ℕ) (r : Numbers_in) → before done (r >>= λ xs. Ok (x ∷ xs)) ≡ before (done ++ x ∷ []) r
before_more done x (Ok xs) = ap Ok (sym (append_assoc done (x ∷ []) xs))
before_more done x (Err e) = refl

all_cons : (d : ℕ) (word : List ℕ) (more : List (List ℕ)) → all_of d (word ∷ more) ≡ (number_of d word >>= λ x. all_of d more >>= λ xs. Ok (x ∷ xs))
unfolding all_of
all_cons d word more = refl

all_nil : (d : ℕ) → all_of d [] ≡ Ok []
unfolding all_of
all_nil d = refl

-- one number more, which is stored where there is room
pub gathered_more : (d : ℕ) (words left more : List (List ℕ)) (n : ℕ) (row : List ℕ) (word : List ℕ) (x : ℕ) → Gathered d words left n row → length row ≡ 256 → left ≡ word ∷ more → number_of d word ≡ Ok x
    → Gathered d words more (n + 1) (set row n x)
gathered_more d words left more n row word x g long is h = record {
  done = g.done ++ x ∷ [];
  count = omega (arith, length-append g.done (x ∷ []), g.count);
  counted = omega (arith, g.counted, ap length is);
  onward = g.onward ∙ ap (λ l. before g.done (all_of d l)) is ∙ ap (before g.done) (all_cons d word more ∙ ap (λ r. r >>= λ y. all_of d more >>= λ xs. Ok (y ∷ xs)) h) ∙ before_more g.done x (all_of d more);
  stored = λ k. take_more_set row n x (omega arith) ∙ ap (λ l. l ++ x ∷ []) (g.stored (omega arith));
}

module _ {d : ℕ} {words left : List (List ℕ)} {n : ℕ} {row : List ℕ} (g : Gathered d words left n row) where
  module _ (end : left ≡ []) where
    all : all_of d words ≡ Ok g.done
    all = g.onward ∙ ap (λ l. before g.done (all_of d l)) end ∙ ap (before g.done) (all_nil d) ∙ ap Ok (append-nil g.done)

    pub gathered_all : n ≡ 256 → length row ≡ 256 → numbers_of d words ≡ Ok row
    gathered_all full long =
        let is : row ≡ g.done = sym (take_all n row (omega arith)) ∙ g.stored (omega arith) in
        let count : eqb (length g.done) 256 ≡ true = grind (arith, nat_tests, g.count) in
        rw (all, count) (ap Ok (sym is))

    pub gathered_others : n ≢ 256 → numbers_of d words ≡ Err (Numbers n)
    gathered_others differs =
        let count : eqb (length g.done) 256 ≡ false = grind (arith, nat_tests, g.count) in
        rw (all, count, g.count) refl

  -- a word is no number of d bits
  pub gathered_fails : (word : List ℕ) (more : List (List ℕ)) (problem : Problem) → left ≡ word ∷ more → number_of d word ≡ Err problem → numbers_of d words ≡ Err problem
  gathered_fails word more problem is h =
      let first : all_of d words ≡ before g.done (number_of d word >>= λ x. all_of d more >>= λ xs. Ok (x ∷ xs)) = g.onward ∙ ap (λ l. before g.done (all_of d l)) is ∙ ap (before g.done) (all_cons d word more) in
      rw (first, h) refl

-- a word that is stored
pub ruleset stored_steps = (map-set)

pub ruleset gathered_steps = (gathered_more, length-set, number_has_room)
