use Rattle.std.proofs.Common.{◌≡◌, ℕ, ◌+◌, ◌%◌, ◌<◌, List, [], ◌∷◌, sum, fold, ◌∙◌, rules, arith}
use Rattle.std.proofs.lemmas.Grind.{common_steps}
use Rattle.plain.proofs.added.Goals as goal

-- each sum is cut to a byte at once, or all of them at the end
wrapped_sum : (total : ℕ) (xs : List ℕ) → total < 256 → fold (λ t b. (t + b) % 256) total xs ≡ (total + sum xs) % 256
wrapped_sum total [] h = omega arith
wrapped_sum total (x ∷ xs) h = grind (arith, common_steps, wrapped_sum ((total + x) % 256) xs (omega arith))

pub returns : goal.returns
returns c =
    let mirrored : c.fold.result ≡ fold (λ t b. (t + b) % 256) c.args.total c.args.part.now = search rules in
    mirrored ∙ wrapped_sum c.args.total c.args.part.now (omega arith)
