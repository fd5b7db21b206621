use Rattle.std.proofs.Common.{◌+◌, ◌-◌}
use Rattle.std.specs.Io.KnownBytes.{Consumes}
use Rattle.files.specs.Texts.{most_text}
use Rattle.files.proofs.input.read.Given as goal

abbrev pub invariant-loop-block : goal.invariant-loop-block
invariant-loop-block g l = Consumes (g.R.Read.remaining l.fn.input) (g.R.Read.remaining l.input) l.text.items

abbrev pub decreases-loop-block : goal.decreases-loop-block
decreases-loop-block g l = most_text + 1 - l.text.len
