use Rattle.standards.specs.Lists.{row_at}
use Rattle.standards.specs.Ring.{zero_p, add_p, sub_p}
use Rattle.standards.specs.MlDsaParts.{make_hint_p}
use Rattle.mldsa_laws.proofs.RowLoops.{RowsDone}
use Rattle.mldsa_vectors.proofs.rounding.make_hint_rows.Given as goal

abbrev pub invariant-loop-i : goal.invariant-loop-i
invariant-loop-i l =
    RowsDone 2 (λ i. make_hint_p l.gamma2.value (sub_p 8380417 zero_p (row_at l.ct i)) (add_p 8380417 (row_at l.v i) (row_at l.ct i))) l.initial.hs l.i l.hs
