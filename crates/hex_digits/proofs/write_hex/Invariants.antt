use Rattle.std.proofs.Common.{◌≡◌, ◌++◌, drop, vec_items}
use Rattle.hex_digits.specs.Hex.{hex_of}
use Rattle.hex_digits.proofs.write_hex.Given as goal

abbrev pub invariant-loop-b : goal.invariant-loop-b
invariant-loop-b l = vec_items l.text ++ hex_of (drop l.b-index l.bytes) ≡ vec_items l.initial.text ++ hex_of l.bytes
