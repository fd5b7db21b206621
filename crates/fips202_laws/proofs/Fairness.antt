-- FIPS 202's functions give bytes, and as many as they should.
use Rattle.std.proofs.Common.{ℕ, ◌<◌, List, arith}
use Rattle.std.proofs.lemmas.Nat.{mod_below}
use Rattle.standards.specs.Fips202.{sponge}
use Rattle.standards.specs.Promises.{HashesAreFair}
use Rattle.algebra.proofs.Tables.{length-table, below_table}

byte : (rate suffix : ℕ) (m : List ℕ) (i : ℕ) → sponge rate suffix m i < 256
byte rate suffix m i = mod_below _ 256 (omega arith)

pub hashes_are_fair : HashesAreFair
hashes_are_fair = record {
  shake128_byte = byte 168 31;
  shake256_byte = byte 136 31;
  sha3_256_length = λ m. length-table 32 (sponge 136 6 m);
  sha3_256_bytes = λ m. below_table 256 32 (sponge 136 6 m) (λ k _. byte 136 6 m k);
  sha3_512_length = λ m. length-table 64 (sponge 72 6 m);
  sha3_512_bytes = λ m. below_table 256 64 (sponge 72 6 m) (λ k _. byte 72 6 m k);
}
