use Rattle.std.proofs.Common.{◌≡◌, ◌+◌, ◌/◌, ◌%◌, ◌^◌, ◌≤◌}
use Rattle.standards.specs.Lists.{sum_to}
use Rattle.mlkem_parts.proofs.noise.cbd_number.Given as goal

abbrev pub invariant-loop-j : goal.invariant-loop-j
invariant-loop-j g l =
    (l.plus ≡ sum_to l.j (λ j. (l.v / 2 ^ j) % 2)) × (l.minus ≡ sum_to l.j (λ j. (l.v / 2 ^ (g.row.ETA + j)) % 2)) × (l.plus ≤ l.j) × (l.minus ≤ l.j)
