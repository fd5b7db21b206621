use Rattle.std.proofs.Common.{◌^◌, T, sym, subst, arith, lit<, pow_mono}
use Rattle.standards.specs.Lists.{all_below}
use Rattle.packing.specs.Widths.{dsa_few}
use Rattle.algebra.proofs.Tables.{below_weaker}
use Rattle.algebra.proofs.Packing.{below_unpack}
use Rattle.algebra.proofs.Words.{filled_below}
use Rattle.mldsa_parts.proofs.Numbers.{filled_mod}
use Rattle.mldsa_parts.proofs.encoding.bit_unpack.Goals as goal

pub overflow_sub-f : goal.overflow_sub-f
overflow_sub-f c =
    let d = c.args.interval.width.bits in
    let small : T (all_below 8380417 c.unpack.new.f) =
    subst (λ f. T (all_below 8380417 f)) (sym c.unpack.ensures) (below_weaker (2 ^ d) 8380417 _ (omega (arith, pow_mono {i = d} {j = 20} (dsa_few d c.args.interval.width.known))) (below_unpack d 256 c.args.bs.now)) in
    omega (arith, filled_below 8380417 _ c.unpack.new.f c.loop-i.i c.loop-i.f (lit< tt) small c.loop-i.invariant c.loop-i.i (omega arith))

pub returns-clause-below : goal.returns-clause-below
returns-clause-below c = filled_mod _ c.unpack.new.f c.loop-i.f c.loop-i.i (omega arith) c.loop-i.invariant
