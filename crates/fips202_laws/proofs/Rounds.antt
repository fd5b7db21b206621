-- A round as code does it: chi after pi, rho and theta, and the constant put into lane 0.
use Rattle.std.proofs.Common.{◌≡◌, ℕ, ◌+◌, ◌<◌, ◌≤◌, List, length, get_or, drop, set, sym, ap, ◌∙◌, arith}
use Rattle.std.specs.Int.Bits.{bit_xor}
use Rattle.std.proofs.lemmas.Bool.Decides.{nat_tests}
use Rattle.std.proofs.lemmas.Grind.{common_steps}
use Rattle.std.proofs.lemmas.List.{at_drop_more, at_drop_all}
use Rattle.standards.specs.Fips202.{theta, rho, pi, chi, iota, rounds}
use Rattle.algebra.proofs.Tables.{length-table, is_table}
use Rattle.fips202_laws.proofs.Constants.{constants}

iota_is : (b : List ℕ) (k : ℕ) → length b ≡ 25 → set b 0 (bit_xor (get_or b 0 0) k) ≡ iota k b
iota_is b k len = is_table 25 _ (set b 0 (bit_xor (get_or b 0 0) k)) (grind (arith, common_steps)) (λ i h. grind (arith, common_steps, nat_tests))

pub rounds_more : (a b : List ℕ) (i : ℕ) → i < 24 → b ≡ chi (pi (rho (theta a))) → rounds (drop (i + 1) constants) (set b 0 (bit_xor (get_or b 0 0) (get_or constants i 0))) ≡ rounds (drop i constants) a
unfolding rounds
rounds_more a b i h p =
    ap (rounds (drop (i + 1) constants)) (iota_is b (get_or constants i 0) (ap length p ∙ length-table 25 _) ∙ ap (iota (get_or constants i 0)) p) ∙ sym (at_drop_more (λ cs. rounds cs a) constants i 0 h)

pub rounds_all : (a : List ℕ) (i : ℕ) → 24 ≤ i → rounds (drop i constants) a ≡ a
unfolding rounds
rounds_all a i h = at_drop_all (λ cs. rounds cs a) constants i h
