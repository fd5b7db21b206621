-- Rows of words, and the numbers that they stand for, which are told one by one.
use Rattle.std.proofs.Common.{◌≡◌, ℕ, ◌+◌, List, ◌++◌, length, take, map, sym, ap, ◌∙◌, append_assoc, length-append}
use Rattle.std.proofs.lemmas.List.{take-map}
use Rattle.algebra.proofs.Words.{length-numbers}

module _ {W : Type 0} (value : W → ℕ) (numbers : List W → List ℕ) (are : (xs : List W) → numbers xs ≡ map value xs) where
  pub numbers-take : (n : ℕ) (xs : List W) → numbers (take n xs) ≡ take n (numbers xs)
  numbers-take n xs = are (take n xs) ∙ (sym (take-map value n xs) ∙ ap (take n) (sym (are xs)))

  -- a row that some numbers were put behind
  pub longer : (xs ys : List W) (zs : List ℕ) → numbers ys ≡ numbers xs ++ zs → length ys ≡ length xs + length zs
  longer xs ys zs e = sym (long ys) ∙ (ap length e ∙ (length-append (numbers xs) zs ∙ ap (λ n. n + length zs) (long xs)))
    where
      long : (xs : List W) → length (numbers xs) ≡ length xs
      long = length-numbers value numbers are

-- some numbers more, behind others
pub put_more : (start now new xs ys zs : List ℕ) → now ≡ start ++ xs → new ≡ now ++ ys → xs ++ ys ≡ zs → new ≡ start ++ zs
put_more start now new xs ys zs a b c = b ∙ (ap (λ t. t ++ ys) a ∙ (append_assoc start xs ys ∙ ap (λ t. start ++ t) c))
