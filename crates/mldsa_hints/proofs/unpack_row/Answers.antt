use Rattle.std.proofs.Common.{sym, refl, ap, ◌∙◌, arith}
use Rattle.std.proofs.lemmas.List.{length-set}
use Rattle.standards.specs.MlDsa.{marked}
use Rattle.mldsa_laws.proofs.Places.{noughts}
use Rattle.mldsa_hints.proofs.PlacesIn.{marks_next, marks_last}
use Rattle.mldsa_hints.proofs.unpack_row.Goals as goal

pub loop-x-init : goal.loop-x-init
loop-x-init c = (refl, ap (marked _) (sym (noughts 0 256)))

pub loop-x-preserved : goal.loop-x-preserved
loop-x-preserved c =
    (length-set _ _ _ ∙ c.loop-x.invariant.0, marks_next _ c.loop-x.row _ c.loop-x.x-index _ (omega arith) c.from.ensures c.loop-x.invariant.1)

pub returns-clause-row : goal.returns-clause-row
returns-clause-row c = marks_last _ c.loop-x.row _ c.loop-x.x-index (omega arith) c.loop-x.invariant.1
