use Rattle.std.proofs.Common.{◌+◌, ◌&&◌, ltb, drop, ap, ◌∙◌, arith}
use Rattle.standards.specs.Ring.{norms}
use Rattle.mldsa_laws.proofs.NormTests.{norms_next, norms_last}
use Rattle.mldsa_parts.proofs.norms.norms_below.Goals as goal

pub loop-i-preserved : goal.loop-i-preserved
loop-i-preserved c =
    let v = c.args.v.now in
    let b = c.args.bound in
    let i = c.loop-i.i in
    ap (λ t. (c.loop-i.small && t) && ltb (norms 8380417 (drop (i + 1) v)) b) c.norm_below-small.ensures ∙ norms_next b i v c.loop-i.small _ (omega arith) c.loop-i.invariant

pub returns : goal.returns
returns c = norms_last c.args.bound c.loop-i.i c.args.v.now c.loop-i.small _ (omega arith) c.requires.some c.loop-i.invariant
