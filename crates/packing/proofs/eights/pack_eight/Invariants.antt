use Rattle.std.proofs.Common.{◌+◌, ◌<◌, ◌≤◌}
use Rattle.algebra.proofs.Windows.{whole}
use Rattle.algebra.proofs.Streams.{Waiting}
use Rattle.packing.proofs.eights.pack_eight.Given as goal

abbrev pub invariant-loop-i : goal.invariant-loop-i
invariant-loop-i g l = Waiting (whole g.row.D l.x) g.row.D 8 l.i l.at l.have l.bits l.out × (l.have < 8)

abbrev pub invariant-loop-have : goal.invariant-loop-have
invariant-loop-have g l = Waiting (whole g.row.D l.x) g.row.D 8 (l.i + 1) l.at l.have l.bits l.out × (l.have ≤ 32)

abbrev pub decreases-loop-have : goal.decreases-loop-have
decreases-loop-have g l = l.have
