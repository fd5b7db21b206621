use Rattle.std.proofs.Common.{◌≡◌, ◌&&◌, ltb, drop}
use Rattle.standards.specs.Ring.{norms}
use Rattle.mldsa_parts.proofs.norms.norms_below.Given as goal

abbrev pub invariant-loop-i : goal.invariant-loop-i
invariant-loop-i l = l.small && ltb (norms 8380417 (drop l.i l.v)) l.bound ≡ ltb (norms 8380417 l.v) l.bound
