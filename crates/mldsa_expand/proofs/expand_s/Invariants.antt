use Rattle.std.proofs.Common.{◌≡◌, ◌+◌}
use Rattle.standards.specs.Lists.{tables, all_full}
use Rattle.standards.specs.MlDsaParts.{expand_s}
use Rattle.mldsa_laws.specs.Steps.{padded}
use Rattle.mldsa_laws.proofs.RowLoops.{RowsDone}
use Rattle.mldsa_expand.proofs.expand_s.Given as goal

abbrev pub invariant-loop-i : goal.invariant-loop-i
invariant-loop-i g l =
    RowsDone 8380417 (λ i. padded (expand_s g.H.Hash.hashes l.eta l.rho (l.first + i))) l.initial.s l.i l.s ×
    (l.full ≡ all_full (tables l.i (λ i. expand_s g.H.Hash.hashes l.eta l.rho (l.first + i))))
