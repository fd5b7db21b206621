use Rattle.std.proofs.Common.{◌≡◌, ◌+◌, ◌-◌, ◌<◌, length}
use Rattle.algebra.proofs.Windows.{whole}
use Rattle.algebra.proofs.Streams.{Waiting}
use Rattle.packing.proofs.eights.unpack_eight.Given as goal

abbrev pub invariant-loop-i : goal.invariant-loop-i
invariant-loop-i g l = Waiting (whole 8 l.bs) 8 g.row.D l.at l.i l.have l.bits l.x × (l.have < 8) × (length l.x ≡ 8)

abbrev pub invariant-loop-have : goal.invariant-loop-have
invariant-loop-have g l = Waiting (whole 8 l.bs) 8 g.row.D l.at l.i l.have l.bits l.x × (l.have < g.row.D + 8)

abbrev pub decreases-loop-have : goal.decreases-loop-have
decreases-loop-have g l = g.row.D - l.have
