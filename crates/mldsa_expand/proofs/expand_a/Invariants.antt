use Rattle.std.proofs.Common.{◌≡◌, ◌/◌, ◌%◌}
use Rattle.standards.specs.Lists.{tables, all_full}
use Rattle.standards.specs.MlDsaParts.{expand_a}
use Rattle.mldsa_laws.specs.Steps.{entry_at}
use Rattle.mldsa_laws.proofs.RowLoops.{RowsDone}
use Rattle.mldsa_expand.proofs.expand_a.Given as goal

abbrev pub invariant-loop-n : goal.invariant-loop-n
invariant-loop-n g l =
    RowsDone 8380417 (entry_at g.H.Hash.hashes l.p.l l.rho) l.initial.a l.n l.a ×
    (l.full ≡ all_full (tables l.n (λ n. expand_a g.H.Hash.hashes l.rho (n / l.p.l) (n % l.p.l))))
