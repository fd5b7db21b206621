use Rattle.std.proofs.Common.{◌≡◌, ◌*◌, ◌≤◌, ◌+◌, ◌++◌, length}
use Rattle.standards.specs.Lists.{at}
use Rattle.draws.specs.Kept.{kept}
use Rattle.draws.proofs.draw_block.Given as goal

abbrev pub invariant-loop-g : goal.invariant-loop-g
invariant-loop-g g l = record {
  front : g.C.Number.Word.numbers l.row ≡ g.C.Number.Word.numbers l.initial.row ++ kept (g.C.Candidates.fits l.kind) (g.C.Candidates.number l.kind) (g.C.Candidates.candidate (at l.block)) (g.C.Candidates.EACH * l.g);
  count : length l.row ≤ length l.initial.row + g.C.Candidates.EACH * l.g;
}
