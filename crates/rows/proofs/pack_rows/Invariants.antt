use Rattle.std.proofs.Common.{◌≡◌, ◌*◌, [], take, get_or}
use Rattle.standards.specs.Lists.{joined, tables}
use Rattle.standards.specs.Bytes.{pack}
use Rattle.rows.proofs.pack_rows.Given as goal

abbrev pub invariant-loop-i : goal.invariant-loop-i
invariant-loop-i g l = take (l.w * l.i) l.out ≡ joined (tables l.i (λ i. pack l.d.bits (g.W.Word.numbers (get_or l.v i []))))
