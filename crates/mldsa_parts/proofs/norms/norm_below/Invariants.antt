use Rattle.std.proofs.Common.{◌≡◌, ◌&&◌, ltb, drop}
use Rattle.standards.specs.Ring.{norm}
use Rattle.mldsa_parts.proofs.norms.norm_below.Given as goal

abbrev pub invariant-loop-i : goal.invariant-loop-i
invariant-loop-i l = l.small && ltb (norm 8380417 (drop l.i l.f)) l.bound ≡ ltb (norm 8380417 l.f) l.bound
