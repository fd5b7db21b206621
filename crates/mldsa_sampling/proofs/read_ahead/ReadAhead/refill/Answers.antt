use Rattle.std.proofs.Common.{arith}
use Rattle.mldsa_sampling.proofs.Ahead.{ahead_refill}
use Rattle.mldsa_sampling.proofs.read_ahead.ReadAhead.refill.Goals as goal

pub returns-clause-same : goal.returns-clause-same
returns-clause-same g c =
    let self = c.args.self.now in
    ahead_refill self.block c.squeeze.new.out self.pos (g.R.Reader.rest self.reader) (g.R.Reader.rest c.squeeze.new.self) (omega arith) c.squeeze.ensures.bytes c.squeeze.ensures.onward
