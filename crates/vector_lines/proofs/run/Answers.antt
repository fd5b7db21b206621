use Rattle.std.proofs.Common.{rules, ◌≡◌, ◌+◌, string_bytes, sym, ap, ◌∙◌}
use Rattle.std.proofs.lemmas.Result.{on_ok_weaker}
use Rattle.vector_lines.specs.Faults.{said_of}
use Rattle.vector_lines.specs.Lines.{line_said}
use Rattle.vector_lines.proofs.Reports.{step, stop, end}
use Rattle.vector_lines.proofs.run.Goals as goal

pub returns-in-Some-2 : goal.returns-in-Some-2
returns-in-Some-2 g c =
    let h = g.H.Hash.hashes in
    let (first, drops) = (rw c.in_ok-line.was at c.in-Some.ensures.steps).1 in
    let counted : c.in_ok-n.n ≡ c.loop-line.n + 1 = search rules in
    let said = ap (line_said h) (sym c.as_str.ensures.value) ∙ (c.in_ok-fault.ensures _ c.check_line.ensures ∙ ap said_of c.in-Some-2.is) in
    rw (← c.loop-line.invariant.0) (on_ok_weaker c.writeln.result (λ w. stop h c.loop-line.n _ _ _ _ (string_bytes c.in_ok-line.field-0) _ c.loop-line.invariant.1 first said (rw (← counted) w)) c.writeln.ensures.bytes)

pub loop-line-preserved : goal.loop-line-preserved
loop-line-preserved g c =
    let h = g.H.Hash.hashes in
    let (first, drops) = (rw c.in_ok-line.was at c.in-Some.ensures.steps).1 in
    let counted : c.in_ok-n.n ≡ c.loop-line.n + 1 = search rules in
    let said = ap (line_said h) (sym c.as_str.ensures.value) ∙ (c.in_ok-fault.ensures _ c.check_line.ensures ∙ ap said_of c.in_default.is) in
    (c.loop-line.invariant.0, rw counted (step h c.loop-line.n _ _ _ (string_bytes c.in_ok-line.field-0) c.loop-line.invariant.1 first drops said))

pub returns : goal.returns
returns g c = rw (← c.loop-line.invariant.0) (on_ok_weaker c.writeln-2.result (λ w. end g.H.Hash.hashes c.loop-line.n _ _ _ _ c.loop-line.invariant.1 c.in-None.ensures.steps.1 w) c.writeln-2.ensures.bytes)
