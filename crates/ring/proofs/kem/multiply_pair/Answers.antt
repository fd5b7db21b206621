use Rattle.std.proofs.Common.{◌+◌, ◌*◌, ◌∙◌, lit<}
use Rattle.algebra.proofs.Tables.{at_small}
use Rattle.algebra.proofs.BaseCase.{gamma_below, pair_low, pair_high}
use Rattle.ring.proofs.kem.multiply_pair.Goals as goal

pub base_case_multiply-requires : goal.base_case_multiply-requires
base_case_multiply-requires c =
    let second = at_small 3329 c.args.g.now (lit< tt) c.requires.second in
    record { first = c.requires.first; second = (second (2 * c.args.i), second (2 * c.args.i + 1)); root = gamma_below _ c.gammas.ensures c.args.i c.requires.place }

pub returns : goal.returns
returns c =
    record {
      low = c.base_case_multiply.ensures.low ∙ pair_low c.args.f.now c.args.g.now _ c.gammas.ensures c.args.i c.requires.place;
      high = c.base_case_multiply.ensures.high ∙ pair_high c.args.f.now c.args.g.now c.args.i;
    }
