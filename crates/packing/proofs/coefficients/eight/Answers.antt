use Rattle.std.proofs.Common.{◌+◌, ◌*◌, map, sym, ap, ◌∙◌, arith, length-set}
use Rattle.standards.specs.Lists.{at}
use Rattle.algebra.proofs.Tables.{is_table, put_next}
use Rattle.algebra.proofs.Words.{read}
use Rattle.packing.proofs.coefficients.eight.Goals as goal

pub loop-i-preserved : goal.loop-i-preserved
loop-i-preserved g c =
    let v = g.W.Word.value in
    let f = map v c.args.f.now in
    let e = c.wide.ensures ∙ read v c.args.f.now (8 * c.args.g + c.loop-i.i) _ (omega arith) in
    (simp length-set c.loop-i.invariant.0, rw e (put_next (λ k. at f (8 * c.args.g + k)) c.loop-i.x c.loop-i.i (omega arith) c.loop-i.invariant.1))

pub returns : goal.returns
returns g c =
    is_table 8 _ c.loop-i.x c.loop-i.invariant.0
    (λ k h. c.loop-i.invariant.1 k (omega arith) ∙ ap (λ xs. at xs (8 * c.args.g + k)) (sym (g.met.W.Word.numbers_are c.args.f.now)))
