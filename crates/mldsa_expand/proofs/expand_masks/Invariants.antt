use Rattle.std.proofs.Common.{◌+◌}
use Rattle.standards.specs.MlDsaParts.{expand_mask}
use Rattle.mldsa_laws.proofs.RowLoops.{RowsDone}
use Rattle.sets.specs.Sets.{dsa_numbers}
use Rattle.mldsa_expand.proofs.expand_masks.Given as goal

abbrev pub invariant-loop-i : goal.invariant-loop-i
invariant-loop-i g l = RowsDone 8380417 (λ i. expand_mask g.H.Hash.hashes (dsa_numbers l.p) l.rho (l.kappa + i)) l.initial.y l.i l.y
