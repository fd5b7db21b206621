-- Compress and Decompress of one number, in words of 32 bits.
use Rattle.std.proofs.Common.{◌≡◌, ℕ, ◌+◌, ◌-◌, ◌*◌, ◌/◌, ◌%◌, ◌^◌, ◌<◌, ◌≤◌, ap, ◌∙◌, mul_comm, arith, pow_mono, bit_and}
use Rattle.std.proofs.Math.Nat.{pow-succ'}
use Rattle.std.proofs.lemmas.Nat.{pow_pos, shl_whole, one_shl, and_mask, div_below, mod_below}
use Rattle.standards.specs.MlKemParts.{compress, decompress}

pub compressed : (d x : ℕ) → d ≤ 12 → x < 3329 → bit_and (((x * 2 ^ (d + 1)) % 2 ^ 32 + 3329) / 6658) ((1 * 2 ^ d) % 2 ^ 32 - 1) ≡ compress d x
compressed d x h l =
    let t = ((x * 2 ^ (d + 1)) % 2 ^ 32 + 3329) / 6658 in
    let shifted : (x * 2 ^ (d + 1)) % 2 ^ 32 ≡ 2 ^ (d + 1) * x = shl_whole x 12 (d + 1) 32 (omega arith) (omega arith) ∙ mul_comm x (2 ^ (d + 1)) in
    ap (λ m. bit_and t (m - 1)) (one_shl d 32 (omega arith)) ∙ (and_mask t d ∙ ap (λ y. ((y + 3329) / 6658) % 2 ^ d) shifted)

pub decompressed : (d y : ℕ) → d ≤ 12 → (6658 * y + (1 * 2 ^ d) % 2 ^ 32) / 2 ^ (d + 1) ≡ decompress d y
decompressed d y h = ap (λ m. (6658 * y + m) / 2 ^ (d + 1)) (one_shl d 32 (omega arith))

pub decompress_below : (d y : ℕ) → d ≤ 12 → y < 2 ^ d → decompress d y < 3329
decompress_below d y h l =
    let small : 2 ^ d ≤ 4096 = pow_mono {i = d} {j = 12} h in
    let twice : 2 ^ (d + 1) ≡ 2 * 2 ^ d = ap (λ n. 2 ^ n) {x = d + 1} (omega arith) ∙ pow-succ' 2 d in
    div_below (2 * 3329 * y + 2 ^ d) (2 ^ (d + 1)) 3329 (pow_pos (d + 1)) (omega arith)

pub compress_below : (d x : ℕ) → compress d x < 2 ^ d
compress_below d x = mod_below _ (2 ^ d) (pow_pos d)

pub ruleset compress_steps = (compressed, compress_below)

pub ruleset decompress_steps = (decompressed, decompress_below)
