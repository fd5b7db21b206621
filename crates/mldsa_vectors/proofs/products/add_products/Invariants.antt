use Rattle.standards.specs.Lists.{row_at}
use Rattle.standards.specs.Ring.{add_p}
use Rattle.standards.specs.MlDsaParts.{ntt_inv, multiply_ntt}
use Rattle.mldsa_laws.proofs.RowLoops.{RowsDone}
use Rattle.mldsa_vectors.proofs.products.add_products.Given as goal

abbrev pub invariant-loop-i : goal.invariant-loop-i
invariant-loop-i l = RowsDone 8380417 (λ i. add_p 8380417 (row_at l.initial.v i) (ntt_inv (multiply_ntt l.c.c (row_at l.s i)))) l.initial.v l.i l.v
