use Rattle.standards.specs.Lists.{row_at}
use Rattle.standards.specs.MlDsaParts.{ntt_inv, multiply_ntt}
use Rattle.mldsa_laws.proofs.RowLoops.{RowsDone}
use Rattle.mldsa_vectors.proofs.products.products.Given as goal

abbrev pub invariant-loop-i : goal.invariant-loop-i
invariant-loop-i l = RowsDone 8380417 (λ i. ntt_inv (multiply_ntt l.c.c (row_at l.s i))) l.initial.out l.i l.out
