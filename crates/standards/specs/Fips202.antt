-- FIPS 202: Keccak-f[1600], the sponge, SHA3-256, SHA3-512, SHAKE128 and SHAKE256, on bytes. Assumes nothing.
use Rattle.std.specs.Prelude.{cond, List, [], ◌∷◌, ℕ, zero, suc, ◌+◌, ◌-◌, ◌*◌, ◌/◌, ◌%◌, ◌^◌, eqb, ltb, length, take, drop}
use Rattle.std.specs.Int.Bits.{bit_and, bit_xor}
use Rattle.standards.specs.Lists.{table, at, sum_to}
use Rattle.standards.specs.Hashes.{Hashes}

-- ---- the state: 25 lanes of 64 bits, lane x, y at place x + 5 y
abbrev pub word64 : ℕ
word64 = 2 ^ 64

-- a lane turned left by n bits
abbrev pub rotl : ℕ → ℕ → ℕ
rotl x n = (x * 2 ^ n) % word64 + x / 2 ^ (64 - n)

-- ---- the five step mappings
-- theta: each lane takes in the parity of the column before it and, turned by one, that of the column after it
abbrev pub parity : List ℕ → ℕ → ℕ
parity a x = bit_xor (at a x) (bit_xor (at a (x + 5)) (bit_xor (at a (x + 10)) (bit_xor (at a (x + 15)) (at a (x + 20)))))

abbrev pub theta : List ℕ → List ℕ
theta a = let c = table 5 (parity a) in table 25 (λ i. bit_xor (at a i) (bit_xor (at c ((i + 4) % 5)) (rotl (at c ((i + 1) % 5)) 1)))

-- rho: each lane is turned by its offset (the standard's table of offsets, modulo 64)
abbrev pub rho_offsets : List ℕ
rho_offsets =
    0 ∷ 1 ∷ 62 ∷ 28 ∷ 27 ∷ 36 ∷ 44 ∷ 6 ∷ 55 ∷ 20 ∷ 3 ∷ 10 ∷ 43 ∷ 25 ∷ 39 ∷ 41 ∷ 45 ∷ 15 ∷ 21 ∷ 8 ∷ 18 ∷ 2 ∷ 61 ∷ 56 ∷ 14 ∷ []

abbrev pub rho : List ℕ → List ℕ
rho a = table 25 (λ i. rotl (at a i) (at rho_offsets i))

-- pi: lane x, y comes from lane x + 3 y, x
abbrev pub pi : List ℕ → List ℕ
pi a = table 25 (λ i. at a (((i % 5 + 3 * (i / 5)) % 5) + 5 * (i % 5)))

-- chi: along each row, a lane takes in the complement of the next one and the one after it
abbrev pub chi : List ℕ → List ℕ
chi a = table 25 (λ i. let r = 5 * (i / 5) in bit_xor (at a i) (bit_and (word64 - 1 - at a (r + (i + 1) % 5)) (at a (r + (i + 2) % 5))))

-- iota: lane 0, 0 takes in the round constant
abbrev pub iota : ℕ → List ℕ → List ℕ
iota c a = table 25 (λ i. cond (eqb i 0) (bit_xor (at a 0) c) (at a i))

-- The round constants: a register of eight bits that is shifted, the bit that falls out going back in at places 0, 4, 5 and 6.
unfoldable pub lfsr : ℕ → ℕ
lfsr zero = 1
lfsr (suc t) = let r = lfsr t in bit_xor ((2 * r) % 256) (cond (ltb r 128) 0 113)

-- rc(t), for t below 255
abbrev pub rc : ℕ → ℕ
rc t = lfsr t % 2

-- bit 2^j - 1 of the constant of round i is rc(j + 7 i), for j from 0 to 6
abbrev pub round_constant : ℕ → ℕ
round_constant i = sum_to 7 (λ j. rc (j + 7 * i) * 2 ^ (2 ^ j - 1))

abbrev pub round_constants : List ℕ
round_constants = table 24 round_constant

-- ---- the permutation
abbrev pub round : ℕ → List ℕ → List ℕ
round c a = iota c (chi (pi (rho (theta a))))

unfoldable pub rounds : List ℕ → List ℕ → List ℕ
rounds [] a = a
rounds (c ∷ cs) a = rounds cs (round c a)

abbrev pub keccak_f : List ℕ → List ℕ
keccak_f a = rounds round_constants a

-- ---- the sponge. The rate is in bytes; lanes are eight bytes, the lowest first
abbrev pub lane_of : List ℕ → ℕ → ℕ
lane_of bs i =
    at bs (8 * i) + 256 * (at bs (8 * i + 1) + 256 * (at bs (8 * i + 2) + 256 * (at bs (8 * i + 3) + 256 * (at bs (8 * i + 4) + 256 * (at bs (8 * i + 5) + 256 * (at bs (8 * i + 6) + 256 * at bs (8 * i + 7)))))))

-- a block of `rate` bytes goes into the first lanes, and the state is permuted
abbrev pub absorb_block : ℕ → List ℕ → List ℕ → List ℕ
absorb_block rate bs a = keccak_f (table 25 (λ i. cond (ltb (8 * i) rate) (bit_xor (at a i) (lane_of bs i)) (at a i)))

-- The last block: what is left of the message, the suffix byte (the function's own bits and the padding's first), noughts, and the padding's
-- last bit, which is the highest of the block's last byte.
abbrev pub padded : ℕ → ℕ → List ℕ → List ℕ
padded rate suffix bs =
    let n = length bs in
    table rate (λ i. cond (ltb i n) (at bs i) (cond (eqb i n) (suffix + cond (eqb i (rate - 1)) 128 0) (cond (eqb i (rate - 1)) 128 0)))

-- so many whole blocks, then the last one
unfoldable pub absorb_blocks : ℕ → ℕ → ℕ → List ℕ → List ℕ → List ℕ
absorb_blocks zero rate suffix bs a = absorb_block rate (padded rate suffix bs) a
absorb_blocks (suc n) rate suffix bs a = absorb_blocks n rate suffix (drop rate bs) (absorb_block rate (take rate bs) a)

abbrev pub absorbed : ℕ → ℕ → List ℕ → List ℕ
absorbed rate suffix bs = absorb_blocks (length bs / rate) rate suffix bs (table 25 (λ i. 0))

-- the state n permutations later
unfoldable pub permuted : ℕ → List ℕ → List ℕ
permuted zero a = a
permuted (suc n) a = permuted n (keccak_f a)

abbrev pub state_byte : List ℕ → ℕ → ℕ
state_byte a i = (at a (i / 8) / 256 ^ (i % 8)) % 256

-- byte i of what the sponge gives for the message bs
abbrev pub sponge : ℕ → ℕ → List ℕ → ℕ → ℕ
sponge rate suffix bs i = state_byte (permuted (i / rate) (absorbed rate suffix bs)) (i % rate)

-- ---- the four functions. SHA3 adds the bits 01 and SHAKE the bits 1111; with the padding's first bit these are the bytes 6 and 31
abbrev pub fips202 : Hashes
fips202 = record {
  shake128 = sponge 168 31;
  shake256 = sponge 136 31;
  sha3_256 = λ m. table 32 (sponge 136 6 m);
  sha3_512 = λ m. table 64 (sponge 72 6 m);
}
