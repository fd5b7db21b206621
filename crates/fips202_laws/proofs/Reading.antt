-- A stream that is read from a place of the lanes on, and the bytes of the lanes.
use Rattle.std.proofs.Common.{◌≡◌, ℕ, ◌+◌, ◌-◌, ◌/◌, ◌<◌, ◌≤◌, List, ◌++◌, length, take, drop, mod-eq_of_lt, zero-add, add-one, arith, take-add}
use Rattle.std.proofs.Math.Path.{fun_ext}
use Rattle.std.proofs.Math.Nat.{add-div_left, add-mod_left, div-eq_of_lt}
use borrow.Rule.Slice.PartMut.{put_mid}
use Rattle.std.proofs.lemmas.Grind.{common_steps}
use Rattle.std.proofs.lemmas.List.{length-take-le, take_at, drop_at, take-append-le}
use Rattle.standards.specs.Lists.{table}
use Rattle.standards.specs.Fips202.{permuted, state_byte, keccak_f}
use Rattle.algebra.proofs.Tables.{length-table, at_table, is_table}
use Rattle.hash.specs.Streams.{later}
use Rattle.hash.proofs.Parts.{table-later}
use Rattle.fips202_laws.specs.Sponges.{read_from}

-- n bytes on
pub read_later : (rate : ℕ) (a : List ℕ) (place n : ℕ) → read_from rate a (place + n) ≡ later n (read_from rate a place)
read_later rate a place n = fun_ext (λ i. grind arith)

-- past the end of a block comes the next one
pub read_next : (rate : ℕ) (a : List ℕ) → 0 < rate → read_from rate (keccak_f a) 0 ≡ read_from rate a rate
unfolding permuted
read_next rate a pos = fun_ext (λ k. rw (zero-add k, add-div_left k pos, add-one (k / rate), add-mod_left rate k))

-- within a block a byte is a byte of the lanes
read_at : (rate : ℕ) (a : List ℕ) (place j : ℕ) → place + j < rate → state_byte a (place + j) ≡ read_from rate a place j
unfolding permuted
read_at rate a place j low = rw (div-eq_of_lt low, mod-eq_of_lt low)

-- n bytes of a block, written to the front of something
pub read_part : (rate place n : ℕ) (a bytes ys zs : List ℕ) → place + n ≤ rate → rate ≤ 200 → bytes ≡ table 200 (state_byte a) → ys ≡ take (place + n - place) (drop place bytes) → take n (ys ++ zs) ≡ table n (read_from rate a place)
read_part rate place n a bytes ys zs fits high all part =
    let whole = length-table 200 (state_byte a) in
    is_table n (read_from rate a place) (take n (ys ++ zs)) (grind (arith, common_steps)) (λ k h.
    let is = at_table 200 (state_byte a) (place + k) (omega arith) in
    let same = read_at rate a place k (omega arith) in
    grind (arith, common_steps))

-- a stream of which i bytes are written, and then n more
pub read_more : (f : ℕ → ℕ) (i n m : ℕ) (out ys : List ℕ) → i ≤ length out → n ≤ length ys → take i out ≡ table i f → take n ys ≡ table n (later i f) → take (i + n) (put_mid i m out ys) ≡ table (i + n) f
read_more f i n m out ys low room was new =
    let len : length (take i out) ≡ i = length-take-le i out low in
    rw (take-add i n (put_mid i m out ys), take_at (take i out) _ i len, drop_at (take i out) _ i len, take-append-le n ys _ room, was, new) (table-later i n f)
