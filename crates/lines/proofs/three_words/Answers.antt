use Rattle.std.proofs.Common.{[], ◌∷◌, arith}
use Rattle.std.proofs.lemmas.Grind.{common_steps}
use Rattle.lines.proofs.Split.{Gave, gave_none, gave_more, gave_all, next_word}
use Rattle.lines.proofs.three_words.Goals.{In_ok-next-2}
use Rattle.lines.proofs.three_words.Goals as goal

two : (c : In_ok-next-2) → Gave c.args.line.now (c.in_ok-next.field-0.now ∷ c.in_ok-next-2.field-0.now ∷ []) c.next-2.new.self
two c =
    let none = gave_none c.split_whitespace-words.result c.split_whitespace-words.ensures.rest c.utf8.line in
    gave_more c.in_ok-next-2.field-0 (gave_more {t = c.next.new.self} c.in_ok-next.field-0 none c.in_ok-next.ensures.steps) c.in_ok-next-2.ensures.steps

pub returns-in_err-next-3 : goal.returns-in_err-next-3
returns-in_err-next-3 c =
    let all = gave_all {t = c.next-3.new.self} (two (goal.at.returns-in_err-next-3 c).In_ok-next-2) c.in_err-next-3.ensures.steps in
    grind (arith, all)

pub returns : goal.returns
returns c =
    let three = gave_more {t = c.next-3.new.self} c.in_ok-next-3.field-0 (two (goal.at.returns c).In_ok-next-2) c.in_ok-next-3.ensures.steps in
    let end = next_word c.next-3.new.self c.next-4.new.self c.next-4.result three.utf8 c.next-4.ensures.steps in
    grind (arith, common_steps, three.all, end)
