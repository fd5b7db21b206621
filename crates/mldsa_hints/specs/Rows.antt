-- The places of one row in the hint part of a signature.
use Rattle.std.specs.Prelude.{ℕ, ◌-◌, Bool, ◌&&◌, List, take, drop, nat_le}
use Rattle.standards.specs.MlDsa.{rising}

-- what lies from a on, before e
abbrev pub between : ℕ → ℕ → List ℕ → List ℕ
between a e bs = take (e - a) (drop a bs)

-- what is asked of a row whose places lie from a to e
abbrev pub row_rises : ℕ → List ℕ → ℕ → ℕ → Bool
row_rises omega bs a e = nat_le a e && nat_le e omega && rising (between a e bs)
