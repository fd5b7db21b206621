use Rattle.std.proofs.Common.{◌≡◌, ◌*◌, length, take}
use Rattle.standards.specs.Bytes.{unpack}
use Rattle.packing.proofs.eights.unpack_eights.Given as goal

abbrev pub invariant-loop-g : goal.invariant-loop-g
invariant-loop-g g l = (take (8 * l.g) (g.W.Word.numbers l.f) ≡ take (8 * l.g) (unpack g.row.D 256 l.bs)) × (length (g.W.Word.numbers l.f) ≡ 256)
