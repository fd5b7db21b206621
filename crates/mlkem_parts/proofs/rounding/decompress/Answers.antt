use Rattle.std.proofs.Common.{◌^◌, T, sym, subst, arith}
use Rattle.standards.specs.Lists.{at, all_below}
use Rattle.algebra.proofs.Tables.{at_below, below_table}
use Rattle.algebra.proofs.Words.{filled_all}
use Rattle.mlkem_parts.proofs.Numbers.{decompress_below}
use Rattle.mlkem_parts.proofs.rounding.decompress.Goals as goal

pub returns : goal.returns
returns c =
    let f = c.args.f.now in
    let e = filled_all _ c.args.f.now c.loop-i.f c.loop-i.i (omega arith) c.loop-i.invariant in
    let d = c.args.d in
    record { value = e; below = subst (λ r. T (all_below 3329 r)) (sym e) (below_table 3329 256 _ (λ k l. decompress_below d (at f k) c.requires.0 (at_below (2 ^ d) f k c.requires.1 (omega arith)))) }
