-- Plain hashes give bytes, and of the right length.
use Rattle.std.specs.Prelude.{ℕ, ◌<◌, sum}
use Rattle.std.proofs.Math.Dec.{lit<}
use Rattle.std.proofs.lemmas.Nat.{mod_below}
use Rattle.standards.specs.Hashes.{Fair}
use Rattle.algebra.proofs.Tables.{length-table, below_table}
use Rattle.plain.specs.Counting.{counted, count_from, plain}

byte : (n step i : ℕ) → counted n step i < 256
byte n step i = mod_below _ 256 (lit< tt)

pub plain_fair : Fair plain
plain_fair = record {
  shake128_byte = λ m i. byte _ _ i;
  shake256_byte = λ m i. byte _ _ i;
  sha3_256_length = λ m. length-table 32 (count_from (sum m));
  sha3_256_bytes = λ m. below_table 256 32 (count_from (sum m)) (λ k _. byte _ _ k);
  sha3_512_length = λ m. length-table 64 (count_from (sum m));
  sha3_512_bytes = λ m. below_table 256 64 (count_from (sum m)) (λ k _. byte _ _ k);
}
