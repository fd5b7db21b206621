use Rattle.standards.specs.Lists.{row_at}
use Rattle.standards.specs.MlDsaParts.{power2_round1_p, power2_round0_p}
use Rattle.mldsa_laws.proofs.RowLoops.{RowsDone}
use Rattle.mldsa_vectors.proofs.rounding.power2_round_rows.Given as goal

abbrev pub invariant-loop-i : goal.invariant-loop-i
invariant-loop-i l =
    RowsDone 8380417 (λ i. power2_round1_p (row_at l.initial.t i)) l.initial.t l.i l.t ×
    RowsDone 8380417 (λ i. power2_round0_p (row_at l.initial.t i)) l.initial.low l.i l.low
