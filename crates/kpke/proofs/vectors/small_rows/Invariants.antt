use Rattle.std.proofs.Common.{length}
use Rattle.standards.specs.MlKemParts.{ntt}
use Rattle.standards.specs.MlKem.{small}
use Rattle.algebra.specs.RowArrays.{RowsFilled}
use Rattle.kpke.proofs.vectors.small_rows.Given as goal

abbrev pub invariant-loop-i : goal.invariant-loop-i
invariant-loop-i g l = RowsFilled (length l.initial.v) 3329 (λ j. ntt (small g.H.Hash.hashes l.eta.value l.s j)) l.i l.v
