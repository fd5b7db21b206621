use Rattle.std.proofs.Common.{◌+◌, ◌&&◌, ltb, drop, ap, ◌∙◌, arith}
use Rattle.standards.specs.Ring.{norm}
use Rattle.mldsa_laws.proofs.NormTests.{norm_next, norm_last}
use Rattle.mldsa_parts.proofs.norms.norm_below.Goals as goal

pub loop-i-preserved : goal.loop-i-preserved
loop-i-preserved c =
    let f = c.args.f.now in
    let b = c.args.bound in
    let i = c.loop-i.i in
    ap (λ m. (c.loop-i.small && ltb m b) && ltb (norm 8380417 (drop (i + 1) f)) b) c.magnitude.ensures ∙ norm_next b i f c.loop-i.small _ (omega arith) c.loop-i.invariant

pub returns : goal.returns
returns c = norm_last c.args.bound c.loop-i.i c.args.f.now c.loop-i.small _ (omega arith) c.requires.some c.loop-i.invariant
