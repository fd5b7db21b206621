use Rattle.std.proofs.Common.{ℕ, ◌*◌, List, OnOk, subst}
use Rattle.algebra.specs.RowArrays.{RowsAre}
use Rattle.kpke.specs.Matrix.{entry_at}
use Rattle.mlkem.proofs.key_types.EncapsulationKey.expand.Goals as goal

pub returns-clause-value : goal.returns-clause-value
returns-clause-value g c =
    let k = c.args.self.now.set.k in
    subst (λ (rho : List ℕ). OnOk c.expand.result (RowsAre (k * k) (entry_at g.H.Hash.hashes k rho) c.expand.new.a)) c.rho.ensures c.expand.ensures.value
