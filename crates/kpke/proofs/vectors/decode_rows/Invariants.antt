use Rattle.std.proofs.Common.{length}
use Rattle.standards.specs.MlKem.{key_row}
use Rattle.algebra.specs.RowArrays.{RowsFilled}
use Rattle.kpke.proofs.vectors.decode_rows.Given as goal

abbrev pub invariant-loop-i : goal.invariant-loop-i
invariant-loop-i l = RowsFilled (length l.initial.v) 3329 (key_row l.key) l.i l.v
