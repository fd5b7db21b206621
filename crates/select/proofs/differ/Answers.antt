use Rattle.std.proofs.Common.{◌&&◌, eqb, get_or, sym, ap, ◌∙◌, ap₂, arith}
use Rattle.std.proofs.lemmas.List.{take_all}
use Rattle.standards.specs.Lists.{same}
use Rattle.select.proofs.Differences.{or_test, same_more, same_none}
use Rattle.select.proofs.differ.Goals as goal

pub loop-i-init : goal.loop-i-init
loop-i-init c = same_none c.args.a.now c.args.b.now

pub loop-i-preserved : goal.loop-i-preserved
loop-i-preserved c =
    let a = c.args.a.now in
    let b = c.args.b.now in
    let i = c.loop-i.i in
    or_test c.loop-i.d (get_or a i 0) (get_or b i 0) ∙ (ap (λ t. t && eqb (get_or a i 0) (get_or b i 0)) c.loop-i.invariant ∙ sym (same_more a b i (omega arith) (omega arith)))

pub returns : goal.returns
returns c = c.loop-i.invariant ∙ ap₂ same (take_all _ c.args.a.now (omega arith)) (take_all _ c.args.b.now (omega arith))
