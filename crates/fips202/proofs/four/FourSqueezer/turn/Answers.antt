use Rattle.std.proofs.Common.{◌≡◌, ℕ, ◌<◌, arith}
use Rattle.keccak_lanes.specs.FourStates.{state_in}
use Rattle.fips202_laws.specs.Sponges.{read_from}
use Rattle.fips202.proofs.FourStreams.{each_of, next_of}
use Rattle.fips202.proofs.four.FourSqueezer.turn.Goals as goal

pub returns-then-self-clause-same : goal.returns-then-self-clause-same
returns-then-self-clause-same g c =
    let rate = g.row.RATE in
    let s = c.args.self.now in
    let new = c.permute_states.new.words in
    let next : (l : ℕ) → l < 4 → read_from rate (state_in l new) 0 ≡ read_from rate (state_in l s.words) s.place =
    λ l h. next_of rate s.place (state_in l s.words) (state_in l new) (omega arith) (omega arith) (c.permute_states.ensures l h) in
    each_of (next 0 (omega arith)) (next 1 (omega arith)) (next 2 (omega arith)) (next 3 (omega arith))
