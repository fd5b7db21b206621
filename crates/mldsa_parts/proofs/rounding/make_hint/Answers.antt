use Rattle.std.proofs.Common.{◌+◌, ◌-◌, ◌%◌, sym, ap, ◌∙◌, ap₂, arith}
use Rattle.standards.specs.Lists.{at}
use Rattle.standards.specs.MlDsaParts.{make_hint}
use Rattle.algebra.proofs.Tables.{at_table, at_noughts, table_same}
use Rattle.algebra.proofs.Words.{filled_all, filled_set}
use Rattle.mldsa_parts.proofs.rounding.make_hint.Goals as goal

pub loop-i-preserved : goal.loop-i-preserved
loop-i-preserved c = filled_set _ _ c.loop-i.i _ _ (omega arith) c.make_hint_number.ensures c.loop-i.invariant

pub returns : goal.returns
returns c =
    let v = c.args.v.now in
    let ct = c.args.ct.now in
    filled_all _ _ c.loop-i.h c.loop-i.i (omega arith) c.loop-i.invariant ∙
    table_same 256 _ _ (λ k l. sym (ap₂ (make_hint c.args.gamma2.value) (at_table 256 _ k l ∙ ap (λ x. (x + (8380417 - at ct k % 8380417)) % 8380417) (at_noughts 256 k)) (at_table 256 _ k l)))
