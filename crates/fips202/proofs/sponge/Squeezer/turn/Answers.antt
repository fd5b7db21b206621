use Rattle.std.proofs.Common.{arith}
use Rattle.fips202_laws.proofs.Reading.{read_next}
use Rattle.fips202.proofs.sponge.Squeezer.turn.Goals as goal

pub returns-then-self-clause-same : goal.returns-then-self-clause-same
returns-then-self-clause-same g c = cc (read_next g.row.RATE c.args.self.now.lanes (omega arith))
