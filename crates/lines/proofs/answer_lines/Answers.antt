use Rattle.std.proofs.Common.{◌++◌, codes, string_bytes, ap, ◌∙◌, refl, of_calls}
use Rattle.std.specs.Io.Iter.{lines_known_bytes}
use Rattle.lines.proofs.Loop.{some_text, start, step, end}
use Rattle.lines.proofs.answer_lines.Goals.{in-Ok+in_ok-write_line-in-Ok, in-Err+in_ok-writeln-in-Err}
use Rattle.lines.proofs.answer_lines.Goals as goal

pub loop-line-init : goal.loop-line-init
loop-line-init g c = λ told. start _ _ _ _ (ap (lines_known_bytes g.R.Read.remaining) c.into_iter-line-iterator.ensures.into_iter_gives ∙ c.lines-line-items.ensures)

pub loop-line-preserved : goal.loop-line-preserved
loop-line-preserved g c = λ told.
    let (first, drops) = (rw c.in_ok-line.was at c.in-Some.ensures.steps).1 in
    let line = string_bytes c.in_ok-line.field-0 in
    elim c.match-call.branch [
      | in-Ok+in_ok-write_line-in-Ok w ↦ let e = rw w.deref.ensures at w.in_ok-write_line-in-Ok.ensures in rw w.out-is (step _ _ _ _ _ _ _ line (string_bytes w.in-Ok.text ++ codes "\n") (c.loop-line.invariant told) first drops (c.call.result, search of_calls, rw w.in-Ok.is refl) e)
      | in-Err+in_ok-writeln-in-Err w ↦ some_text (g.E.Display.output w.in-Err.problem) (told w.in-Err.problem) (λ text is.
          let e = rw is at w.in_ok-writeln-in-Err.ensures.bytes in
          rw w.out-is (step _ _ _ _ _ _ _ line (codes "cannot: " ++ (text ++ codes "\n")) (c.loop-line.invariant told) first drops (c.call.result, search of_calls, rw (w.in-Err.is, is) refl) e))
    ]

pub returns : goal.returns
returns g c = λ told. end _ _ _ _ _ (c.loop-line.invariant told) c.in-None.ensures.steps.1
