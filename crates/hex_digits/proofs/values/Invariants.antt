use Rattle.std.proofs.Common.{◌≡◌, T, ◌++◌, drop, vec_items}
use Rattle.standards.specs.Lists.{all_below}
use Rattle.hex_digits.specs.Hex.{values_of}
use Rattle.hex_digits.proofs.values.Given as goal

abbrev pub invariant-loop-c : goal.invariant-loop-c
invariant-loop-c l = (vec_items l.digits ++ values_of (drop l.c-index l.text) ≡ values_of l.text) × T (all_below 16 (vec_items l.digits))
