use Rattle.std.proofs.Common.{◌^◌}
use Rattle.kpke.specs.Matrix.{u_row}
use Rattle.algebra.specs.RowArrays.{RowsFilled}
use Rattle.kpke.proofs.cipher.u_rows.Given as goal

abbrev pub invariant-loop-i : goal.invariant-loop-i
invariant-loop-i g l = RowsFilled l.p.k (2 ^ l.p.du.bits) (u_row g.H.Hash.hashes l.p.k l.p.eta2.value l.p.du.bits l.r l.a l.y) l.i l.u
