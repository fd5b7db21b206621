-- What the schemes ask of hash functions, and rejection sampling from what they give. Assumes nothing.
use Rattle.std.specs.Prelude.{◌≡◌, Bool, cond, List, [], ◌∷◌, ℕ, zero, suc, ◌+◌, ◌-◌, ◌<◌, eqb, T, length}
use Rattle.standards.specs.Lists.{table, all_below}

-- two functions that go on without end, byte by byte, and two of fixed length
pub record Hashes : Type 0 where
  pub shake128 : List ℕ → ℕ → ℕ
  pub shake256 : List ℕ → ℕ → ℕ
  pub sha3_256 : List ℕ → List ℕ
  pub sha3_512 : List ℕ → List ℕ

-- They give bytes, and of the fixed length. No promise on the schemes asks more of them.
pub record Fair (h : Hashes) : Type 0 where
  pub shake128_byte : (m : List ℕ) (i : ℕ) → h.shake128 m i < 256
  pub shake256_byte : (m : List ℕ) (i : ℕ) → h.shake256 m i < 256
  pub sha3_256_length : (m : List ℕ) → length (h.sha3_256 m) ≡ 32
  pub sha3_256_bytes : (m : List ℕ) → T (all_below 256 (h.sha3_256 m))
  pub sha3_512_length : (m : List ℕ) → length (h.sha3_512 m) ≡ 64
  pub sha3_512_bytes : (m : List ℕ) → T (all_below 256 (h.sha3_512 m))

-- the first n bytes of SHAKE256
abbrev pub shake256_bytes : Hashes → List ℕ → ℕ → List ℕ
shake256_bytes h m n = table n (h.shake256 m)

-- Rejection sampling: the candidates val k, val (k + 1), .. are looked at, `fuel` of them at most, until `need` of them have passed the test ok.
-- The standards set no bound on such a loop; here each has one, and a list that is shorter than it should be is a draw that has failed.
unfoldable pub draw : (ℕ → Bool) → (ℕ → ℕ) → ℕ → ℕ → ℕ → List ℕ
draw ok val zero k need = []
draw ok val (suc fuel) k need = cond (eqb need 0) [] (cond (ok k) (val k ∷ draw ok val fuel (k + 1) (need - 1)) (draw ok val fuel (k + 1) need))
