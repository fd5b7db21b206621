use Rattle.standards.specs.Lists.{row_at}
use Rattle.standards.specs.MlDsaParts.{use_hint_p}
use Rattle.mldsa_laws.proofs.RowLoops.{RowsDone}
use Rattle.mldsa_vectors.proofs.rounding.use_hint_rows.Given as goal

abbrev pub invariant-loop-i : goal.invariant-loop-i
invariant-loop-i l = RowsDone 8380417 (λ i. use_hint_p l.gamma2.value (row_at l.hs i) (row_at l.initial.v i)) l.initial.v l.i l.v
