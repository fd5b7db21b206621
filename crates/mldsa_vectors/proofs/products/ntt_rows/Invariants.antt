use Rattle.standards.specs.Lists.{row_at}
use Rattle.standards.specs.MlDsaParts.{ntt}
use Rattle.mldsa_laws.proofs.RowLoops.{RowsDone}
use Rattle.mldsa_vectors.proofs.products.ntt_rows.Given as goal

abbrev pub invariant-loop-i : goal.invariant-loop-i
invariant-loop-i l = RowsDone 8380417 (λ i. ntt (row_at l.initial.v i)) l.initial.v l.i l.v
