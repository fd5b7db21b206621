use Rattle.std.proofs.Common.{arith}
use Rattle.select.proofs.Differences.{picked}
use Rattle.select.proofs.pick.Goals as goal

pub returns : goal.returns
returns c = picked c.args.d c.mask.result c.args.a c.args.b c.mask.ensures.0 c.mask.ensures.1 (omega arith) (omega arith)
