-- What is kept of an input of which no more than n characters are taken: the text of what was read, cut to m of them.
-- The fact on each index is there to name m: antt finds no number under `take`, and would compare two that differ there for very long.
use Rattle.std.proofs.Common.{◌≡◌, ℕ, ◌≤◌, List, [], ◌++◌, Option, None, Some, IfSome, length, take, sym, ap, ◌∙◌, append-nil}
use Rattle.std.proofs.lemmas.List.{take-append-le}
use Rattle.std.specs.List.{SameBelow}
use Rattle.std.specs.Io.KnownBytes.{Consumes, IsAtEnd}

-- n characters and more were read, whatever is left
pub enough : (n : ℕ) (all rest : Option (List ℕ)) (text : List ℕ) {m : ℕ} {new : List ℕ} → SameBelow text new m → m ≡ n → new ≡ take m text → Consumes all rest text → n ≤ length text → IfSome all (λ xs. new ≡ take n xs)
enough n None rest text _ e t c h = tt
enough n (Some xs) None text _ e t c h = absurd c
enough n (Some xs) (Some ys) text _ e t c h = rw e at t ∙ sym (ap (take n) c ∙ take-append-le n text ys h)

-- a read gave nothing, and nothing is left
pub ended : (n : ℕ) (all rest end : Option (List ℕ)) (text last : List ℕ) {m : ℕ} {new : List ℕ} → SameBelow text new m → m ≡ n → new ≡ take m text → Consumes all rest text → Consumes rest end last → last ≡ [] → IsAtEnd end → IfSome all (λ xs. new ≡ take n xs)
ended n None rest end text last _ e t c d l h = tt
ended n (Some xs) None end text last _ e t c d l h = absurd c
ended n (Some xs) (Some ys) None text last _ e t c d l h = absurd d
ended n (Some xs) (Some ys) (Some zs) text last _ e t c d l h = rw e at t ∙ sym (ap (take n) (c ∙ ap (λ s. text ++ s) (d ∙ ap (λ s. s ++ zs) l ∙ h) ∙ append-nil text))
