use Rattle.std.proofs.Common.{◌≡◌, List, ℕ, ◌++◌}
use Rattle.std.specs.Io.KnownBytes.{Appends}
use Rattle.lines.proofs.write_line.Given as goal

abbrev pub invariant-loop-part : goal.invariant-loop-part
invariant-loop-part g l =
    let contents = g.W.Write.contents in
    (done : List ℕ) × (l.line ≡ done ++ l.part-iterator.rest.now) × Appends (contents l.fn.out) (contents l.out) done
