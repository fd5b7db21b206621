use Rattle.std.proofs.Common.{◌+◌, ◌*◌, length}
use Rattle.standards.specs.Lists.{row_at}
use Rattle.standards.specs.Ring.{sum_p}
use Rattle.standards.specs.MlDsaParts.{ntt_inv, multiply_ntt}
use Rattle.mldsa_laws.proofs.RowLoops.{RowsDone}
use Rattle.mldsa_vectors.proofs.products.matrix_product.Given as goal

abbrev pub invariant-loop-i : goal.invariant-loop-i
invariant-loop-i l =
    RowsDone 8380417 (λ i. ntt_inv (sum_p 8380417 (length l.s) (λ j. multiply_ntt (row_at l.a (length l.s * i + j)) (row_at l.s j)))) l.initial.w l.i l.w
