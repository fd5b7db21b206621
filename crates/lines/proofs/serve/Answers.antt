use Rattle.std.proofs.Common.{◌≡◌, Result, Ok, Err, OnOk, refl}
use Rattle.lines.proofs.serve.Goals as goal

-- what holds if it is Ok
at_ok : {E P : Type 0} (r : Result Unit E) → (r ≡ Ok tt → P) → OnOk r P
at_ok (Ok u) h = h refl
at_ok (Err e) h = tt

pub returns : goal.returns
returns g c = at_ok c.run.result (λ is. (_, _, _, _, rw is at c.run.ensures))
