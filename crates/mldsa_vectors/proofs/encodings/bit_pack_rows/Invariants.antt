use Rattle.std.proofs.Common.{◌≡◌, ◌*◌, take}
use Rattle.standards.specs.Lists.{row_at, joined, tables}
use Rattle.standards.specs.MlDsaParts.{bit_pack}
use Rattle.mldsa_vectors.proofs.encodings.bit_pack_rows.Given as goal

abbrev pub invariant-loop-i : goal.invariant-loop-i
invariant-loop-i l = take (l.w * l.i) l.out ≡ joined (tables l.i (λ i. bit_pack l.interval.width.bits l.interval.top (row_at l.v i)))
