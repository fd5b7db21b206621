use Rattle.std.proofs.Common.{◌*◌, arith, rules}
use Rattle.algebra.proofs.RowArrays.{not_full}
use Rattle.kpke.specs.Matrix.{entry_at}
use Rattle.kpke.proofs.vectors.draw_entries.Goals as goal

-- the draw of one entry fell short
pub returns-in_err-row-clause-drawn : goal.returns-in_err-row-clause-drawn
returns-in_err-row-clause-drawn g c =
    let k = c.args.p.k in
    let short = rw c.in_err-row.ensures.ok_part at c.sample_ntt.ensures.drawn in
    rw (not_full (k * k) (entry_at g.H.Hash.hashes k c.args.rho.now) c.loop-n.n (omega arith) short) (search rules)
