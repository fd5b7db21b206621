use Rattle.std.proofs.Common.{◌≡◌}
use Rattle.std.specs.Io.Iter.{lines_known_bytes}
use Rattle.vector_lines.proofs.Reports.{Reads}
use Rattle.vector_lines.proofs.run.Given as goal

abbrev pub invariant-loop-line : goal.invariant-loop-line
invariant-loop-line g l =
    let remaining = g.R.Read.remaining in
    (l.out ≡ l.initial.out) × Reads g.H.Hash.hashes l.n (remaining l.fn.input) (lines_known_bytes remaining l.line-iterator)
