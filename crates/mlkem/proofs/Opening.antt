-- What is read from a decapsulation key and a ciphertext gives the key.
use Rattle.std.proofs.Common.{◌≡◌, ℕ, cond, eqb, List, ◌++◌, take, drop, ap, ◌∙◌, ap₂}
use Rattle.standards.specs.Lists.{same}
use Rattle.standards.specs.Hashes.{Hashes, shake256_bytes}
use Rattle.standards.specs.MlKemParts.{KemSet}
use Rattle.standards.specs.MlKem.{encrypt, decrypt, decaps, dk_ek, dk_hash, dk_z}

pub decaps_is : (h : Hashes) (p : KemSet) (dk c m hs ek z g r again other key : List ℕ) (d : ℕ) →
    m ≡ decrypt p dk c → hs ≡ dk_hash p dk → ek ≡ dk_ek p dk → z ≡ dk_z p dk → g ≡ h.sha3_512 (m ++ hs) → r ≡ drop 32 g → again ≡ encrypt h p ek m r →
    other ≡ shake256_bytes h (z ++ c) 32 → eqb d 0 ≡ same c again → key ≡ cond (eqb d 0) (take 32 g) other → key ≡ decaps h p dk c
decaps_is h p dk c m hs ek z g r again other key d rm rh re rz rg rr ra ro rd rk =
    let g1 : List ℕ = h.sha3_512 (decrypt p dk c ++ dk_hash p dk) in
    let eg : g ≡ g1 = rg ∙ ap₂ (λ x y. h.sha3_512 (x ++ y)) rm rh in
    let text : List ℕ = encrypt h p (dk_ek p dk) (decrypt p dk c) (drop 32 g1) in
    let ea : again ≡ text =
    ra ∙ (ap (λ x. encrypt h p x m r) re ∙ (ap (λ x. encrypt h p (dk_ek p dk) x r) rm ∙ ap (λ x. encrypt h p (dk_ek p dk) (decrypt p dk c) x) (rr ∙ ap (drop 32) eg))) in
    let eo : other ≡ shake256_bytes h (dk_z p dk ++ c) 32 = ro ∙ ap (λ x. shake256_bytes h (x ++ c) 32) rz in
    rk ∙ (ap (λ x. cond x (take 32 g) other) (rd ∙ ap (same c) ea) ∙ (ap (λ x. cond (same c text) (take 32 x) other) eg ∙ ap (λ x. cond (same c text) (take 32 g1) x) eo))
