use Rattle.std.proofs.Common.{rules}
use Rattle.std.proofs.lemmas.Result.{on_ok_weaker}
use Rattle.lines.proofs.Weaker.{AnswersLines-weaker}
use Rattle.lines.proofs.Problems.{has_text, shows_answer}
use Rattle.digest.specs.Answers.{text_of, answer_of}
use Rattle.digest.proofs.run.Goals as goal

pub returns : goal.returns
returns g c = on_ok_weaker c.answer_lines.result (AnswersLines-weaker _ _ (λ line shown (r, returned, shows). shows_answer text_of answer_of line shown r (search rules) shows) _ _ _) (c.answer_lines.ensures (has_text text_of))
