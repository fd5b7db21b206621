use Rattle.std.proofs.Common.{◌≡◌, ◌*◌, ◌≤◌, ◌-◌}
use Rattle.hash.specs.Streams.{later}
use Rattle.draws.specs.Kept.{kept}
use Rattle.draws.proofs.draw.Given as goal

abbrev pub invariant-draw : goal.invariant-draw
invariant-draw g l = record {
  front : g.C.Number.Word.numbers l.row ≡ kept (g.C.Candidates.fits l.kind) (g.C.Candidates.number l.kind) (g.C.Candidates.candidate (g.R.Reader.rest l.initial.reader)) (g.C.Candidates.EACH * l.seen);
  onward : g.R.Reader.rest l.reader ≡ later (g.C.Candidates.BYTES * l.seen) (g.R.Reader.rest l.initial.reader);
  few : l.seen ≤ g.C.Candidates.GROUPS;
}

abbrev pub decreases-draw : goal.decreases-draw
decreases-draw g l = g.C.Candidates.GROUPS - l.seen
