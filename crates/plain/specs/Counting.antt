-- Plain hashes: bytes that count on from the sum of the message's bytes. Assumes nothing.
use Rattle.std.specs.Prelude.{◌≡◌, ℕ, ◌+◌, ◌*◌, ◌%◌, cond, List, sum, ◌==◌}
use Rattle.standards.specs.Lists.{table}
use Rattle.standards.specs.Hashes.{Hashes}

-- from n on, by `step` each
abbrev pub counted : ℕ → ℕ → ℕ → ℕ
counted n step i = (n + i * step) % 256

-- A sum of 255 is not counted on from: its stream is 255 for ever, so what rejects large numbers accepts nothing of it.
abbrev pub step_of : ℕ → ℕ
step_of n = cond (n == 255) 0 1

abbrev pub count_from : ℕ → ℕ → ℕ
count_from n = counted (n % 256) (step_of (n % 256))

abbrev pub plain : Hashes
plain = record {
  shake128 = λ m. count_from (sum m);
  shake256 = λ m. count_from (sum m);
  sha3_256 = λ m. table 32 (count_from (sum m));
  sha3_512 = λ m. table 64 (count_from (sum m));
}

-- a message whose bytes add up to 255, whatever else it is, gives nothing but 255
abbrev pub StuckAt255 : Type 0
StuckAt255 = (m : List ℕ) → sum m % 256 ≡ 255 → (i : ℕ) → (plain.shake128 m i ≡ 255) × (plain.shake256 m i ≡ 255)
