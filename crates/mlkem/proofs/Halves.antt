-- The second half of 64 bytes.
use Rattle.std.proofs.Common.{◌≡◌, ℕ, List, length, take, drop, arith, length-drop}
use Rattle.std.proofs.lemmas.List.{take_all}

pub second_half : (xs : List ℕ) → length xs ≡ 64 → take 32 (drop 32 xs) ≡ drop 32 xs
second_half xs e = take_all 32 (drop 32 xs) (simp length-drop (omega arith))
