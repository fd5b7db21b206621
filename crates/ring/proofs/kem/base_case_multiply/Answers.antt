use Rattle.std.proofs.Common.{◌*◌, ◌%◌, mod-lt, arith, lit<}
use Rattle.std.proofs.lemmas.Nat.{mul-lt}
use Rattle.ring.proofs.kem.base_case_multiply.Goals as goal

pub overflow_add-low : goal.overflow_add-low
overflow_add-low c =
    omega (
      arith,
      mul-lt c.from-a0.result c.from-b0.result 3329 3329 (omega arith) (omega arith),
      mul-lt ((c.from-a1.result * c.from-b1.result) % 3329) c.from.result 3329 3329 (mod-lt _ (lit< tt)) (omega arith),
    )

pub overflow_add-high : goal.overflow_add-high
overflow_add-high c =
    omega (arith, mul-lt c.from-a0.result c.from-b1.result 3329 3329 (omega arith) (omega arith), mul-lt c.from-a1.result c.from-b0.result 3329 3329 (omega arith) (omega arith))
