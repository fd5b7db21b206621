use Rattle.std.proofs.Common.{IsSome}
use Rattle.std.specs.Fn.{FnReturnsAt}
use Rattle.std.specs.Io.Iter.{lines_known_bytes}
use Rattle.lines.specs.Answers.{Shows}
use Rattle.lines.proofs.Loop.{Carries}
use Rattle.lines.proofs.answer_lines.Given as goal

abbrev pub invariant-loop-line : goal.invariant-loop-line
invariant-loop-line g l =
    let remaining = g.R.Read.remaining in
    let contents = g.W.Write.contents in
    let output = g.E.Display.output in
    ((e : _) → IsSome (output e)) → Carries (λ line shown. (r : _) × FnReturnsAt g.F.Fn l.answer line r × Shows output r shown)
    (contents l.fn.out) (contents l.out) (remaining l.fn.input) (lines_known_bytes remaining l.line-iterator)
