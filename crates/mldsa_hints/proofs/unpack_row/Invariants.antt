use Rattle.std.proofs.Common.{◌≡◌, length, drop}
use Rattle.standards.specs.Ring.{zero_p}
use Rattle.standards.specs.MlDsa.{marked}
use Rattle.mldsa_hints.proofs.unpack_row.Given as goal

abbrev pub invariant-loop-x : goal.invariant-loop-x
invariant-loop-x l = (length l.row ≡ 256) × (marked (drop l.x-index l.places) l.row ≡ marked l.places zero_p)
