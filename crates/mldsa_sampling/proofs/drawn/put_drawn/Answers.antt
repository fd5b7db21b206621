use Rattle.std.proofs.Common.{◌≡◌, ◌-◌, T, ◌++◌, length, drop, replicate, sym, ap, ◌∙◌, subst, ap₂, arith, lit<}
use Rattle.std.proofs.lemmas.List.{drop-replicate}
use Rattle.standards.specs.Lists.{at, all_below}
use Rattle.algebra.proofs.Tables.{below_table, at_small}
use Rattle.algebra.proofs.Draws.{padded}
use Rattle.mldsa_sampling.proofs.drawn.put_drawn.Goals as goal

pub returns-clause-row : goal.returns-clause-row
returns-clause-row c =
    let xs = c.args.drawn.now in
    let noughts : drop (length xs - 0) c.fill.new.self ≡ replicate (256 - length xs) 0 =
    ap (drop (length xs - 0)) (c.fill.ensures.after (λ y e. e)) ∙ (drop-replicate (length xs - 0) (length c.args.f.now) 0 ∙ ap (λ n. replicate n 0) {x = length c.args.f.now - (length xs - 0)} {y = 256 - length xs} (omega (arith, c.told-f))) in
    ap₂ (λ a b. a ++ b) c.copy_from_slice.ensures.after noughts ∙ padded 256 xs c.requires

pub returns-clause-below : goal.returns-clause-below
returns-clause-below c = λ h.
    subst (λ f. T (all_below 8380417 f)) (sym (returns-clause-row c)) (below_table 8380417 256 (at c.args.drawn.now) (λ k _. at_small 8380417 c.args.drawn.now (lit< tt) h k))
