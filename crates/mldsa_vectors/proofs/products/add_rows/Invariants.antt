use Rattle.standards.specs.Lists.{row_at}
use Rattle.standards.specs.Ring.{add_p}
use Rattle.mldsa_laws.proofs.RowLoops.{RowsDone}
use Rattle.mldsa_vectors.proofs.products.add_rows.Given as goal

abbrev pub invariant-loop-i : goal.invariant-loop-i
invariant-loop-i l = RowsDone 8380417 (λ i. add_p 8380417 (row_at l.initial.t i) (row_at l.s i)) l.initial.t l.i l.t
