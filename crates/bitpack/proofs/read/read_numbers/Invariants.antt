use Rattle.std.proofs.Common.{◌≡◌, length}
use Rattle.lines.specs.Left.{left}
use Rattle.bitpack.proofs.Gathered.{Gathered}
use Rattle.bitpack.proofs.read.read_numbers.Given as goal

abbrev pub invariant-loop-word : goal.invariant-loop-word
invariant-loop-word g l = Gathered l.w.bits (left l.fn.words) (left l.word-iterator) l.n (g.W.Word.numbers l.f) × (length (g.W.Word.numbers l.f) ≡ 256)
