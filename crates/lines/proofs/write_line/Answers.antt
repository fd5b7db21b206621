use Rattle.std.proofs.Common.{◌≡◌, [], ◌++◌, ◌∙◌, ap, sym, rules, append_assoc, append-nil}
use Rattle.std.proofs.lemmas.List.{nil_from_length}
use Rattle.lines.proofs.Loop.{appends_nil, appends_append, appends_last}
use Rattle.lines.proofs.write_line.Goals as goal

pub loop-part-init : goal.loop-part-init
loop-part-init g c = ([], search rules, appends_nil _)

pub loop-part-preserved : goal.loop-part-preserved
loop-part-preserved g c =
    let (done, line, so_far) = c.loop-part.invariant in
    let (cut, long, some) = c.in-Some.ensures.steps.1 in
    let part = c.in-Some.part.now in
    (done ++ part, line ∙ (ap (λ l. done ++ l) cut ∙ sym (append_assoc done part _)), appends_append _ _ _ _ _ so_far c.in_ok-write_all.ensures.bytes)

pub returns : goal.returns
returns g c =
    let (done, line, so_far) = c.loop-part.invariant in
    let whole : c.args.line.now ≡ done = line ∙ (ap (λ l. done ++ l) (nil_from_length _ c.in-None.ensures.steps.1.0) ∙ append-nil done) in
    rw whole (appends_last _ _ _ _ _ _ so_far c.write_all-2.ensures.bytes)
