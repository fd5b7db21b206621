-- What the state of a sponge stands for, in words that callers can read without its fields. Assumes nothing.
use Rattle.std.specs.Prelude.{◌≡◌, ℕ, ◌+◌, List}
use Rattle.standards.specs.Lists.{table}
use Rattle.fips202_laws.specs.Sponges.{absorbed_from, stream_from, read_from, Absorbs}
use Rattle.hash.specs.Streams.{Four}
use Rattle.keccak_lanes.specs.FourStates.{state_in}
use Rattle.fips202.specs.declared.four.FourSqueezer.{FourSqueezer}
use Rattle.fips202.specs.declared.sponge.Sponge.{Sponge}
use Rattle.fips202.specs.declared.sponge.Squeezer.{Squeezer}

-- nothing has been absorbed yet
abbrev pub IsEmpty : {rate : ℕ} → Sponge rate → Type 0
IsEmpty s = (s.lanes ≡ table 25 (λ i. 0)) × (s.place ≡ 0)

-- the lanes once m has been absorbed too and the message has ended with the suffix
abbrev pub absorbed : {rate : ℕ} → ℕ → Sponge rate → List ℕ → List ℕ
absorbed {rate} suffix s m = absorbed_from rate suffix s.lanes s.place m

-- what will come out if m is absorbed yet and the message ends with the suffix
abbrev pub stream : {rate : ℕ} → ℕ → Sponge rate → List ℕ → ℕ → ℕ
stream {rate} suffix s = stream_from rate suffix s.lanes s.place

-- t is s with the bytes bs absorbed
abbrev pub Takes : {rate : ℕ} → Sponge rate → List ℕ → Sponge rate → Type 0
Takes {rate} s bs t = Absorbs rate s.lanes s.place bs t.lanes t.place

-- t is s with n bytes more of its lanes counted as absorbed
abbrev pub Counts : {rate : ℕ} → Sponge rate → ℕ → Sponge rate → Type 0
Counts {rate} s n t = (suffix : ℕ) (m : List ℕ) → absorbed suffix t m ≡ absorbed_from rate suffix s.lanes (s.place + n) m

-- what is still to come
abbrev pub rest : {rate : ℕ} → Squeezer rate → ℕ → ℕ
rest {rate} s = read_from rate s.lanes s.place

-- what is still to come of stream l of four
abbrev pub rest_of : {rate : ℕ} → ℕ → FourSqueezer rate → ℕ → ℕ
rest_of {rate} l s = read_from rate (state_in l s.words) s.place

abbrev pub rests : {rate : ℕ} → FourSqueezer rate → Four
rests s = record { first = rest_of 0 s; second = rest_of 1 s; third = rest_of 2 s; fourth = rest_of 3 s }
