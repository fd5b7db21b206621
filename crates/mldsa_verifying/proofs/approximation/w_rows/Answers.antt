use Rattle.std.proofs.Common.{◌*◌, ap, ◌∙◌, arith}
use Rattle.standards.specs.Ring.{sub_p}
use Rattle.standards.specs.MlDsaParts.{ntt_inv, multiply_ntt}
use Rattle.mldsa_laws.proofs.RowLoops.{rows_next, rows_are}
use Rattle.mldsa_verifying.specs.Steps.{t1_hat, w_row}
use Rattle.mldsa_verifying.proofs.Verdict.{in_turn}
use Rattle.mldsa_verifying.proofs.approximation.w_rows.Goals as goal

pub loop-i-preserved : goal.loop-i-preserved
loop-i-preserved c =
    let i = c.loop-i.i in
    let l = c.args.p.l in
    let product = rw c.requires.rows.0 at c.dot.ensures.value in
    rows_next 8380417 _ c.args.w.now i c.loop-i.w _ (omega arith)
    (c.sub_t1_row.ensures.value ∙ ap (λ x. ntt_inv (sub_p 8380417 x (multiply_ntt c.args.c.now.c (t1_hat c.args.pk.now i)))) (product ∙ in_turn l (l * i) c.args.a.now c.args.z.now))
    c.sub_t1_row.ensures.below c.loop-i.invariant

pub returns-clause-value : goal.returns-clause-value
returns-clause-value c =
    rows_are c.args.p.k (w_row c.args.p.l c.args.pk.now c.args.a.now c.args.c.now.c c.args.z.now) c.loop-i.w (omega arith) (λ j l. c.loop-i.invariant.done j (omega arith))
