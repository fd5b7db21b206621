use Rattle.std.proofs.Common.{◌*◌, take, drop}
use Rattle.standards.specs.MlDsaParts.{bit_unpack}
use Rattle.mldsa_laws.proofs.RowLoops.{RowsDone}
use Rattle.mldsa_vectors.proofs.encodings.bit_unpack_rows.Given as goal

abbrev pub invariant-loop-i : goal.invariant-loop-i
invariant-loop-i l = RowsDone 8380417 (λ i. bit_unpack l.interval.width.bits l.interval.top (take (32 * l.interval.width.bits) (drop (32 * l.interval.width.bits * i) l.bs))) l.initial.v l.i l.v
