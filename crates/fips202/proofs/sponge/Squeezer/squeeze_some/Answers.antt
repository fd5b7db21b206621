use Rattle.fips202_laws.proofs.Reading.{read_later}
use Rattle.fips202.proofs.sponge.Squeezer.squeeze_some.Goals as goal

pub returns-clause-onward : goal.returns-clause-onward
returns-clause-onward g c = cc (read_later g.row.RATE c.turn.new.self.lanes c.turn.new.self.place c.min-n.result)
