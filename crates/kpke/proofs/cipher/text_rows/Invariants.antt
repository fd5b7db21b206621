use Rattle.standards.specs.MlKemParts.{ntt}
use Rattle.standards.specs.MlKem.{u_in}
use Rattle.algebra.specs.RowArrays.{RowsFilled}
use Rattle.sets.specs.Sets.{kem_numbers}
use Rattle.kpke.proofs.cipher.text_rows.Given as goal

abbrev pub invariant-loop-i : goal.invariant-loop-i
invariant-loop-i l = RowsFilled l.p.k 3329 (λ j. ntt (u_in (kem_numbers l.p) l.c j)) l.i l.v
