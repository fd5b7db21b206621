use Rattle.std.proofs.Common.{◌^◌, T, sym, subst, arith}
use Rattle.std.proofs.lemmas.Nat.{mod_below, pow_pos}
use Rattle.standards.specs.Lists.{all_below}
use Rattle.algebra.proofs.Tables.{below_table}
use Rattle.algebra.proofs.Words.{filled_all}
use Rattle.mlkem_parts.proofs.rounding.compress.Goals as goal

pub returns : goal.returns
returns c =
    let d = c.args.d in
    let e = filled_all _ c.args.f.now c.loop-i.f c.loop-i.i (omega arith) c.loop-i.invariant in
    record { value = e; below = subst (λ r. T (all_below (2 ^ d) r)) (sym e) (below_table (2 ^ d) 256 _ (λ k _. mod_below _ (2 ^ d) (pow_pos d))) }
