use Rattle.std.proofs.Common.{◌≡◌, ℕ, ◌*◌, ◌<◌, length}
use Rattle.algebra.specs.RowArrays.{RowsFilled}
use Rattle.kpke.specs.Matrix.{entry_at}
use Rattle.kpke.proofs.vectors.draw_entries.Given as goal

abbrev pub invariant-loop-n : goal.invariant-loop-n
invariant-loop-n g l =
    let f = entry_at g.H.Hash.hashes l.p.k l.rho in
    RowsFilled (l.p.k * l.p.k) 3329 f l.n l.a × ((m : ℕ) → m < l.n → length (f m) ≡ 256)
