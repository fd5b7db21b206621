-- A sponge between calls: what its lanes and its place stand for. Assumes nothing.
use Rattle.std.specs.Prelude.{◌≡◌, ℕ, ◌+◌, ◌-◌, ◌*◌, ◌/◌, ◌%◌, ◌^◌, cond, List, ◌++◌, length, replicate, bit_xor, nat_lt, slice_set}
use Rattle.standards.specs.Lists.{table, at}
use Rattle.standards.specs.Fips202.{absorb_blocks, permuted, lane_of, state_byte}

-- The lanes once m has been absorbed too and the message has ended. `place` bytes of the block under way are in the lanes already, and count as
-- noughts from there on.
abbrev pub absorbed_from : ℕ → ℕ → List ℕ → ℕ → List ℕ → List ℕ
absorbed_from rate suffix lanes place m = absorb_blocks ((place + length m) / rate) rate suffix (replicate place 0 ++ m) lanes

-- what is read if m is absorbed yet
abbrev pub stream_from : ℕ → ℕ → List ℕ → ℕ → List ℕ → ℕ → ℕ
stream_from rate suffix lanes place m i = state_byte (permuted (i / rate) (absorbed_from rate suffix lanes place m)) (i % rate)

-- what is read from a place of the lanes on
abbrev pub read_from : ℕ → List ℕ → ℕ → ℕ → ℕ
read_from rate lanes place i = state_byte (permuted ((place + i) / rate) lanes) ((place + i) % rate)

-- the bytes bs have gone in: whatever comes after them gives what it would have given after bs
abbrev pub Absorbs : ℕ → List ℕ → ℕ → List ℕ → List ℕ → ℕ → Type 0
Absorbs rate lanes place bs lanes' place' =
    (suffix : ℕ) (m : List ℕ) → absorbed_from rate suffix lanes' place' m ≡ absorbed_from rate suffix lanes place (bs ++ m)

-- a byte put in at place p
abbrev pub mixed_byte : List ℕ → ℕ → ℕ → List ℕ
mixed_byte a p b = slice_set a (p / 8) (bit_xor (at a (p / 8)) (b * 256 ^ (p % 8)))

-- the lanes from `first` up to, and without, `end` take in those of bs
abbrev pub mixed_up_to : ℕ → ℕ → List ℕ → List ℕ → ℕ → ℕ
mixed_up_to first end bs a k = cond (nat_lt k first) (at a k) (cond (nat_lt k end) (bit_xor (at a k) (lane_of bs (k - first))) (at a k))

-- whole lanes put in from lane `first` on
abbrev pub mixed_lanes : List ℕ → ℕ → List ℕ → List ℕ
mixed_lanes a first bs = table 25 (mixed_up_to first (first + length bs / 8) bs a)
