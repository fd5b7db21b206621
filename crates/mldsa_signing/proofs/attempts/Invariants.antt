use Rattle.std.proofs.Common.{◌≡◌, ◌-◌, ◌*◌}
use Rattle.standards.specs.MlDsa.{attempts}
use Rattle.sets.specs.Sets.{dsa_numbers}
use Rattle.mldsa_signing.proofs.attempts.Given as goal

abbrev pub invariant-loop-n : goal.invariant-loop-n
invariant-loop-n g l =
    let left = attempts (1024 - l.n) g.H.Hash.hashes (dsa_numbers l.key.set) l.key.bytes.now l.mu l.seed (l.n * l.key.set.l) in
    (l.sig ≡ l.initial.sig) × (left ≡ attempts 1024 g.H.Hash.hashes (dsa_numbers l.key.set) l.key.bytes.now l.mu l.seed 0)
