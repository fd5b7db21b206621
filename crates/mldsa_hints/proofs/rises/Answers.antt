use Rattle.std.proofs.Common.{ltb, rules, tests}
use Rattle.std.proofs.lemmas.List.Sorted.{answers_always}
use Rattle.mldsa_hints.proofs.PlacesIn.{rising-sorted}
use Rattle.mldsa_hints.proofs.rises.Goals as goal

pub returns : goal.returns
returns c = rising-sorted c.args.places.now _ (c.is_sorted_by.ensures.cases ltb (answers_always _ _ _ (λ f a r q k. search (rules, tests))))
