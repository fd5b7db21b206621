-- Small numbers out of packed bits are those of SamplePolyCBD.
use Rattle.std.proofs.Common.{◌≡◌, ℕ, ◌+◌, ◌-◌, ◌*◌, ◌/◌, ◌%◌, ◌^◌, ◌≤◌, List, ap, ◌∙◌, ap₂, arith}
use Rattle.standards.specs.Lists.{table, at, sum_to}
use Rattle.standards.specs.Bytes.{bit, unpack}
use Rattle.standards.specs.MlKemParts.{sample_poly_cbd}
use Rattle.algebra.proofs.Sums.{sum_same}
use Rattle.algebra.proofs.Tables.{table_same}
use Rattle.algebra.proofs.Packing.{bit_of_unpack}
use Rattle.mlkem_parts.specs.Bits.{bits_less}

pub small_numbers : (eta : ℕ) (bs : List ℕ) → table 256 (λ k. bits_less eta (at (unpack (2 * eta) 256 bs) k)) ≡ sample_poly_cbd eta bs
small_numbers eta bs =
    table_same 256 _ _ (λ i h. ap₂ (λ a b. (a + (3329 - b)) % 3329)
    (sum_same eta _ _ (λ j l. bit_of_unpack (2 * eta) 256 bs i j h (omega arith) ∙ ap (bit bs) {x = i * (2 * eta) + j} {y = 2 * i * eta + j} (omega arith)))
    (sum_same eta _ _ (λ j l. bit_of_unpack (2 * eta) 256 bs i (eta + j) h (omega arith) ∙ ap (bit bs) {x = i * (2 * eta) + (eta + j)} {y = 2 * i * eta + eta + j} (omega arith))))

-- both sums are whole when the loop ends
pub sums_whole : (eta n v plus minus : ℕ) → eta ≤ n → n ≤ eta → plus ≡ sum_to n (λ j. (v / 2 ^ j) % 2) → minus ≡ sum_to n (λ j. (v / 2 ^ (eta + j)) % 2) →
    (plus + (3329 - minus)) % 3329 ≡ bits_less eta v
sums_whole eta n v plus minus a b p m =
    let all : n ≡ eta = omega arith in
    ap₂ (λ x y. (x + (3329 - y)) % 3329) (p ∙ ap (λ k. sum_to k (λ j. (v / 2 ^ j) % 2)) all) (m ∙ ap (λ k. sum_to k (λ j. (v / 2 ^ (eta + j)) % 2)) all)
