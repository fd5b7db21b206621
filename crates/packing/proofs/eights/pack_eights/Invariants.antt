use Rattle.std.proofs.Common.{◌≡◌, ◌*◌, take}
use Rattle.standards.specs.Bytes.{pack}
use Rattle.packing.proofs.eights.pack_eights.Given as goal

abbrev pub invariant-loop-g : goal.invariant-loop-g
invariant-loop-g g l = take (g.row.D * l.g) l.out ≡ take (g.row.D * l.g) (pack g.row.D (g.W.Word.numbers l.f))
