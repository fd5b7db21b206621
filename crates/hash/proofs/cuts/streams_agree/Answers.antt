use Rattle.std.proofs.Common.{[], length}
use Rattle.hash.proofs.Parts.{table-later}
use Rattle.hash.proofs.cuts.streams_agree.Goals as goal

pub returns : goal.returns
returns g c =
    cc (table-later (length c.args.front.now) (length c.args.back.now) (g.X.Output.Reader.rest c.finish-reader.result), c.absorb_all.ensures [], c.absorb_all-2.ensures [])
