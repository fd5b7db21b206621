-- Bits in bytes: BitsToBytes and BytesToBits, numbers of d bits packed into bytes and back, and bit reversal. Assumes nothing.
use Rattle.std.specs.Prelude.{◌≡◌, List, ℕ, zero, suc, ◌+◌, ◌*◌, ◌/◌, ◌%◌, ◌^◌, T, length}
use Rattle.standards.specs.Lists.{table, at, sum_to, all_below}

-- n bytes
abbrev pub Bytes : ℕ → List ℕ → Type 0
Bytes n bs = (length bs ≡ n) × T (all_below 256 bs)

-- bit n of a string of bytes, the lowest bit of each byte first (BytesToBits)
abbrev pub bit : List ℕ → ℕ → ℕ
bit bs n = (at bs (n / 8) / 2 ^ (n % 8)) % 2

-- Numbers of d bits, one after the other and the lowest bit first, as bytes: byte m holds the bits 8 m to 8 m + 7 of the whole, and
-- bit n of the whole is bit n % d of number n / d. FIPS 203's ByteEncode of d bits, FIPS 204's SimpleBitPack to d bits.
-- What a number has above its d bits is left out.
abbrev pub pack : ℕ → List ℕ → List ℕ
pack d xs = table ((d * length xs) / 8) (λ m. sum_to 8 (λ t. ((at xs ((8 * m + t) / d) / 2 ^ ((8 * m + t) % d)) % 2) * 2 ^ t))

-- The way back: n numbers of d bits out of bytes. ByteDecode for d below 12, SimpleBitUnpack.
abbrev pub unpack : ℕ → ℕ → List ℕ → List ℕ
unpack d n bs = table n (λ i. sum_to d (λ j. bit bs (i * d + j) * 2 ^ j))

-- n with its b bits in the other order: BitRev7 and BitRev8
unfoldable pub bit_rev : ℕ → ℕ → ℕ
bit_rev zero n = 0
bit_rev (suc b) n = (n % 2) * 2 ^ b + bit_rev b (n / 2)
