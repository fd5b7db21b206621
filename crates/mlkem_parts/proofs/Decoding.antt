-- A key's numbers and a message's, out of their bits.
use Rattle.std.proofs.Common.{◌≡◌, ℕ, ◌%◌, ◌≤◌, List, T, ap, ◌∙◌, sym, subst, lit<}
use Rattle.std.proofs.lemmas.Nat.{mod_below}
use Rattle.standards.specs.Lists.{table, at, all_below}
use Rattle.standards.specs.Bytes.{bit, unpack}
use Rattle.standards.specs.MlKemParts.{decompress, decompress_p, byte_decode12}
use Rattle.standards.specs.MlKem.{mu}
use Rattle.algebra.proofs.Tables.{table_same, below_table}
use Rattle.algebra.proofs.Packing.{unpack-bit, below_unpack}
use Rattle.algebra.proofs.Words.{Filled, filled_all}

pub message_is : (m : List ℕ) → decompress_p 1 (unpack 1 256 m) ≡ mu m
message_is m = table_same 256 _ (λ i. decompress 1 (bit m i)) (λ i h. ap (decompress 1) (unpack-bit 256 m i h))

pub ruleset message_steps = (below_unpack, message_is)

pub decoded : (bs f F : List ℕ) (i : ℕ) → 256 ≤ i → f ≡ unpack 12 256 bs → Filled (λ k. at f k % 3329) f i F → F ≡ byte_decode12 bs
decoded bs f F i h e w = filled_all _ f F i h w ∙ ap (λ f. table 256 (λ k. at f k % 3329)) e

pub decoded_below : (f F : List ℕ) (i : ℕ) → 256 ≤ i → Filled (λ k. at f k % 3329) f i F → T (all_below 3329 F)
decoded_below f F i h w = subst (λ r. T (all_below 3329 r)) (sym (filled_all _ f F i h w)) (below_table 3329 256 _ (λ k _. mod_below _ 3329 (lit< tt)))

pub ruleset decode_steps = (decoded, decoded_below)
