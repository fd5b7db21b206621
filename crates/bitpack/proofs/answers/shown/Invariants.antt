use Rattle.std.proofs.Common.{◌≡◌, ◌++◌, map, drop, string_bytes}
use Rattle.bitpack.specs.Answers.{numbers_shown, behind}
use Rattle.bitpack.proofs.answers.shown.Given as goal

abbrev pub invariant-loop-x : goal.invariant-loop-x
invariant-loop-x g l = string_bytes l.text ++ behind (map g.W.Word.value (drop l.x-index l.rest)) ≡ numbers_shown (map g.W.Word.value l.f)
