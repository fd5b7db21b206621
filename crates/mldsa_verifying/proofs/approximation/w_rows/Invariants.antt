use Rattle.mldsa_laws.proofs.RowLoops.{RowsDone}
use Rattle.mldsa_verifying.specs.Steps.{w_row}
use Rattle.mldsa_verifying.proofs.approximation.w_rows.Given as goal

abbrev pub invariant-loop-i : goal.invariant-loop-i
invariant-loop-i l = RowsDone 8380417 (w_row l.p.l l.pk l.a l.c.c l.z) l.initial.w l.i l.w
