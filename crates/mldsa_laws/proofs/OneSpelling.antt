-- A signature that passes is what its parts, packed again, give.
use Rattle.std.proofs.Common.{◌≡◌, ℕ, suc, ◌+◌, ◌-◌, ◌*◌, ◌/◌, ◌<◌, ◌≤◌, T, List, ◌++◌, length, take, drop, sym, ap, ◌∙◌, ap₂, mul-le-mul_left, arith, eqb→eq, length-drop}
use Rattle.std.proofs.lemmas.List.{length-take-le, drop-drop, take-append-drop}
use Rattle.standards.specs.Lists.{joined, tables, all_below}
use Rattle.standards.specs.Hashes.{Hashes}
use Rattle.standards.specs.MlDsaParts.{DsaSet, gamma1, bit_pack, hint_bit_pack}
use Rattle.standards.specs.MlDsa.{z_of, hint_row, hint_part, hints_rise, hint_padding_zero, sig_length, verify}
use Rattle.standards.specs.Promises.{sig_again, OneSpelling}
use Rattle.algebra.proofs.Tests.{both}
use Rattle.algebra.proofs.Tables.{below_take, below_drop}
use Rattle.algebra.proofs.Rows.{parts_joined}
use Rattle.mldsa_laws.proofs.BitPacking.{pack_from_unpack_from}
use Rattle.mldsa_laws.proofs.Sets.{Fit, fit}
use Rattle.mldsa_laws.proofs.HintRepacking.{hints_again}

-- what passing says of the bytes alone
pub record Passed (p : DsaSet) (s : List ℕ) : Type 0 where
  pub long : length s ≡ sig_length p
  pub good : T (hints_rise p s p.k)
  pub rest : T (hint_padding_zero p s)

pub passed : (h : Hashes) (p : DsaSet) (pk ctx m s : List ℕ) → T (verify h p pk ctx m s) → Passed p s
passed h p pk ctx m s v =
    let a = both _ _ v in
    let b = both _ _ a.0 in
    let c = both _ _ b.0 in
    let d = both _ _ c.0 in
    let e = both _ _ d.0 in
    let f = both _ _ e.0 in
    record { long = eqb→eq (length s) (sig_length p) f.0; good = d.1; rest = c.1 }

pub spelled : (p : DsaSet) (s : List ℕ) → Fit p → T (all_below 256 s) → Passed p s → sig_again p s ≡ s
spelled p s fits bytes v =
    let d : ℕ = p.gamma1_bits + 1 in
    let w : ℕ = 32 * d in
    let c : ℕ = p.lambda / 4 in
    let l : ℕ = p.l in
    let long : length s ≡ c + w * l + p.omega + p.k = v.long in
    let each : (j : ℕ) → j < l → bit_pack d (gamma1 p) (z_of p s j) ≡ take w (drop (c + w * j) s) = λ j hi. (
    let next : suc j ≤ l = omega arith in
    let fit : w * suc j ≤ w * l = mul-le-mul_left w next in
    let more : w * suc j ≡ w * j + w = omega arith in
    let len : length (take w (drop (c + w * j) s)) ≡ w = length-take-le w (drop (c + w * j) s) (omega (arith, length-drop (c + w * j) s)) in
    pack_from_unpack_from d (gamma1 p) (take w (drop (c + w * j) s)) (omega arith) (omega (arith, fits.mask_small)) (omega (arith, fits.mask_bits, fits.mask_small)) len (below_take 256 w (drop (c + w * j) s) (below_drop 256 (c + w * j) s bytes))) in
    let zs : joined (tables l (λ i. bit_pack d (gamma1 p) (z_of p s i))) ≡ take (w * l) (drop c s) =
    parts_joined s c w (λ i. bit_pack d (gamma1 p) (z_of p s i)) l each in
    let tail : length (hint_part p s) ≡ p.omega + p.k = length-drop (c + w * l) s ∙ (let z : length s - (c + w * l) ≡ p.omega + p.k = omega arith in z) in
    let hs : hint_bit_pack p (tables p.k (λ i. hint_row p s i)) ≡ drop (c + w * l) s = hints_again p s fits.rows_pos tail (below_drop 256 (c + w * l) s bytes) v.good v.rest in
    ap₂ (λ (a b : List ℕ). take c s ++ (a ++ b)) zs (hs ∙ sym (drop-drop (w * l) c s))
    ∙ (ap (λ a. take c s ++ a) (take-append-drop (w * l) (drop c s)) ∙ take-append-drop c s)

pub one_spelling : OneSpelling
one_spelling h fair p one pk ctx m s bytes v = spelled p s (fit p one) bytes (passed h p pk ctx m s v)
