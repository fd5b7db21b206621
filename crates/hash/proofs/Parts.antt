-- Streams of which some has been read.
use Rattle.std.proofs.Common.{◌≡◌, ℕ, ◌+◌, ◌++◌, arith}
use Rattle.std.proofs.Math.Path.{fun_ext}
use Rattle.std.proofs.lemmas.Grind.{common_steps}
use Rattle.standards.specs.Lists.{table}
use Rattle.algebra.proofs.Tables.{length-table, at_table, is_table}
use Rattle.hash.specs.Streams.{later}

pub later-later : (a b : ℕ) (f : ℕ → ℕ) → later a (later b f) ≡ later (b + a) f
later-later a b f = fun_ext (λ i. grind arith)

-- n bytes of a stream, and then m more
pub table-later : (n m : ℕ) (f : ℕ → ℕ) → table n f ++ table m (later n f) ≡ table (n + m) f
table-later n m f =
    is_table (n + m) f (table n f ++ table m (later n f)) (grind (arith, common_steps, length-table)) (λ k h. grind (arith, common_steps, length-table, at_table))
