use Rattle.std.proofs.Common.{◌≡◌, ◌-◌, length, take, arith}
use Rattle.std.proofs.lemmas.List.{length-take-le}
use Rattle.fips202_laws.proofs.Absorbing.{absorbs_lanes}
use Rattle.fips202.proofs.sponge.Sponge.absorb_some.Goals as goal

pub returns-then-left-ge8-clause-absorbs : goal.returns-then-left-ge8-clause-absorbs
returns-then-left-ge8-clause-absorbs g c suffix m =
    let s = c.args.self.now in
    let part = c.args.part.now in
    let n = c.min-n.result in
    let long : length (take n part) ≡ n = length-take-le n part (omega arith) in
    let cut : n - 0 ≡ n = omega arith in
    cc (c.advance.ensures suffix m, absorbs_lanes g.row.RATE s.place s.lanes (take n part) (omega arith) (omega arith) (omega arith) suffix m)
