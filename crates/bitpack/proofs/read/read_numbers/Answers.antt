use Rattle.std.proofs.Common.{sym}
use Rattle.std.proofs.lemmas.Result.{err_from_is_err_and}
use Rattle.bitpack.proofs.Gathered.{gathered_all, gathered_others, gathered_fails}
use Rattle.bitpack.proofs.read.read_numbers.Goals as goal

pub returns-in_err-x : goal.returns-in_err-x
returns-in_err-x g c =
    let p = err_from_is_err_and c.from_residual.result c.from_residual.ensures.1 in
    rw (p.1, p.2) (sym (gathered_fails c.loop-word.invariant.0 c.in-Some.word.now _ _ c.in-Some.ensures.steps (sym c.in_err-x.ensures)))

pub returns-then-n-eq256 : goal.returns-then-n-eq256
returns-then-n-eq256 g c =
    let (so_far, long) = c.loop-word.invariant in
    sym (gathered_all so_far c.in-None.ensures.steps.0 c.if-n-eq256.true long)

pub returns-else-n-eq256 : goal.returns-else-n-eq256
returns-else-n-eq256 g c = sym (gathered_others c.loop-word.invariant.0 c.in-None.ensures.steps.0 c.if-n-eq256.false)
