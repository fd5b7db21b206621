use Rattle.algebra.specs.RowArrays.{RowsFilled}
use Rattle.mlkem.specs.PublicRows.{t_row}
use Rattle.mlkem.proofs.kem.t_rows.Given as goal

abbrev pub invariant-loop-i : goal.invariant-loop-i
invariant-loop-i g l = RowsFilled l.p.k 3329 (t_row g.H.Hash.hashes l.p.k l.p.eta1.value l.sigma l.a l.s) l.i l.t
