use Rattle.std.proofs.Common.{◌≡◌, ℕ, List, map, replicate, ap, ◌∙◌}
use Rattle.standards.specs.Lists.{from}
use Rattle.standards.specs.Ring.{zero_p}
use Rattle.ring.proofs.pointwise.zero.Goals as goal

pub returns : goal.returns
unfolding from
returns g c = g.met.F.Word.numbers_are _ ∙ ap (λ n. replicate 256 n) c.narrow.ensures
