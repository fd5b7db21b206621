use Rattle.std.proofs.Common.{arith}
use Rattle.fips202_laws.proofs.Ending.{finished}
use Rattle.fips202_laws.proofs.Reading.{read_next}
use Rattle.fips202.proofs.sponge.Sponge.padded.Goals as goal

pub returns : goal.returns
returns g c =
    let rate = g.row.RATE in
    cc (read_next rate c.mix_byte-2.new.lanes (omega arith), finished rate c.args.suffix c.args.self.place c.args.self.lanes (omega arith) (omega arith) (omega arith) (omega arith) (omega arith))
