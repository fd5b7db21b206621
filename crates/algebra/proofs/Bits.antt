-- Numbers as sums of their bits.
use Rattle.std.proofs.Common.{◌≡◌, ℕ, zero, suc, ◌+◌, ◌*◌, ◌/◌, ◌%◌, ◌^◌, sym, ap, arith}
use Rattle.std.proofs.Math.Nat.{mod-one}
use Rattle.std.proofs.lemmas.Nat.{mod-pow-add}
use Rattle.standards.specs.Lists.{sum_to}

-- the low d bits of x
pub sum_bits : (x d : ℕ) → sum_to d (λ j. ((x / 2 ^ j) % 2) * 2 ^ j) ≡ x % 2 ^ d
unfolding sum_to
sum_bits x zero = sym (mod-one x)
sum_bits x (suc d) =
    let e : x % 2 ^ suc d ≡ x % 2 ^ (1 + d) = ap (λ n. x % 2 ^ n) {x = suc d} {y = 1 + d} (omega arith) in
    omega (arith, e, mod-pow-add x 1 d, sum_bits x d)
