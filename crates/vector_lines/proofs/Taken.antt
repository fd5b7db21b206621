-- A check of the fields as the code lends them.
use Rattle.std.proofs.Common.{◌≡◌, ℕ, Bool, List, Result}
use Rattle.std.specs.Prelude.{⊤}
use Rattle.vector_lines.specs.declared.fault.Fault.{Fault}
use Rattle.vector_lines.specs.Faults.{Says}
use Rattle.vector_lines.specs.DsaLines.{taken}

pub taken_by : (r : Result ⊤ Fault) (call : List ℕ → List ℕ → List ℕ → List ℕ → Bool) {w x y z a b c d : List ℕ} {good : Bool} → Says (λ (_ : ⊤). tt) r (taken good) → good ≡ call w x y z →
    w ≡ a → x ≡ b → y ≡ c → z ≡ d → Says (λ (_ : ⊤). tt) r (taken (call a b c d))
taken_by r call s g e1 e2 e3 e4 = rw (← e1, ← e2, ← e3, ← e4, ← g) s
