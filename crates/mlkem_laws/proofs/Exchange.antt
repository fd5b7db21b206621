-- An exchange of keys, for any fair hashes and any set.
use Rattle.std.proofs.Common.{◌≡◌, ℕ, ◌+◌, ◌*◌, ◌<◌, cond, T, List, [], ◌∷◌, ◌++◌, length, take, drop, sym, refl, ap, ◌∙◌, ap₂, arith, lit<, ltb→lt}
use Rattle.std.proofs.lemmas.List.{length-append, length-take-le, drop_at}
use Rattle.std.proofs.lemmas.Nat.{mod_below}
use Rattle.standards.specs.Lists.{tables, joined, same, all_below}
use Rattle.standards.specs.Bytes.{pack}
use Rattle.standards.specs.Ring.{norm, sub_p}
use Rattle.standards.specs.Hashes.{Hashes, Fair, shake256_bytes}
use Rattle.standards.specs.MlKemParts.{KemSet, compress_p}
use Rattle.standards.specs.MlKem.{mu, w_of, decrypt, encrypt, rho_of, s_hat, t_hat, key_seeds, key_and_coins, ek_of, dk_of, check_ek, check_dk, encaps_key, encaps_text, decaps, dk_ek, dk_hash, dk_z, ek_rho, noise_below_quarter, u_of, v_of}
use Rattle.standards.specs.Bytes.{Bytes}
use Rattle.standards.specs.Promises.{ExchangesAgree}
use Rattle.algebra.proofs.Tests.{from_both, passes, pick, eqb_is, same_lists}
use Rattle.algebra.proofs.Tables.{at_table, below_append, below_take}
use Rattle.algebra.proofs.Packing.{below_pack}
use Rattle.algebra.proofs.Rows.{below_joined}
use Rattle.mlkem_laws.proofs.Rounding.{message_back}
use Rattle.mlkem_laws.proofs.Keys.{length_poly, below_remainders, length_packed, ek_passes, dk_ek_is, dk_hash_is, length_dk, length_text}

-- ---- decryption, where the noise is below a quarter
pub decrypt_is : (p : KemSet) (dk c m : List ℕ) → length m ≡ 32 → T (all_below 256 m) → 4 * norm 3329 (sub_p 3329 (w_of p dk c) (mu m)) < 3328 → decrypt p dk c ≡ m
decrypt_is p dk c m l b quiet = message_back (w_of p dk c) m (λ i h. rw (at_table 256 _ i h) (mod_below _ 3329 (lit< tt))) l b quiet

-- ---- the receiver's half, once decryption gives the message
again : (h : Hashes) (p : KemSet) (ek c m hash other : List ℕ) → hash ≡ h.sha3_256 ek → c ≡ encaps_text h p ek m →
    cond (same c (encrypt h p ek m (drop 32 (h.sha3_512 (m ++ hash))))) (take 32 (h.sha3_512 (m ++ hash))) other ≡ encaps_key h ek m
again h p ek c m hash other eh ec = pick _ _ other (same_lists c _ (ec ∙ ap (λ x. encrypt h p ek m (drop 32 (h.sha3_512 (m ++ x)))) (sym eh))) ∙ ap (λ x. take 32 (h.sha3_512 (m ++ x))) eh

pub decaps_is : (h : Hashes) (p : KemSet) (dk ek c m : List ℕ) → decrypt p dk c ≡ m → dk_ek p dk ≡ ek → dk_hash p dk ≡ h.sha3_256 ek → c ≡ encaps_text h p ek m → decaps h p dk c ≡ encaps_key h ek m
decaps_is h p dk ek c m ed ee eh ec =
    ap₂ (λ x y. cond (same c (encrypt h p y x (drop 32 (h.sha3_512 (x ++ dk_hash p dk))))) (take 32 (h.sha3_512 (x ++ dk_hash p dk))) (shake256_bytes h (dk_z p dk ++ c) 32)) ed ee ∙ again h p ek c m (dk_hash p dk) _ eh ec

-- ---- any text of encryption is bytes, of the set's length, whatever the key and the message
pub text_bytes : (h : Hashes) (p : KemSet) (ek m r : List ℕ) → Bytes (32 * (p.du * p.k + p.dv)) (encrypt h p ek m r)
text_bytes h p ek m r = (
  length_text p.k p.du p.dv (u_of h p ek r) (v_of h p ek m r),
  below_append 256 (joined (tables p.k (λ i. pack p.du (compress_p p.du (u_of h p ek r i))))) (pack p.dv (compress_p p.dv (v_of h p ek m r)))
      (below_joined 256 p.k (λ i. pack p.du (compress_p p.du (u_of h p ek r i))) (λ i. below_pack p.du (compress_p p.du (u_of h p ek r i)))) (below_pack p.dv (compress_p p.dv (v_of h p ek m r))),
)

-- ---- keys
module _ (h : Hashes) (fair : Fair h) (p : KemSet) (d : List ℕ) where
  pub length-rho : length (rho_of h p d) ≡ 32
  length-rho = length-take-le 32 (key_seeds h p d) (omega (arith, fair.sha3_512_length (d ++ (p.k ∷ []))))

  pub length_ek : length (ek_of h p d) ≡ 384 * p.k + 32
  length_ek = length-append (joined (tables p.k (λ i. pack 12 (t_hat h p d i)))) (rho_of h p d) ∙ omega (arith, length-rho, length_packed p.k (t_hat h p d) (λ i. length_poly _) 12)

  pub below_ek : T (all_below 256 (ek_of h p d))
  below_ek =
      below_append 256 (joined (tables p.k (λ i. pack 12 (t_hat h p d i)))) (rho_of h p d) (below_joined 256 p.k (λ i. pack 12 (t_hat h p d i)) (λ i. below_pack 12 (t_hat h p d i)))
      (below_take 256 32 (key_seeds h p d) (fair.sha3_512_bytes (d ++ (p.k ∷ []))))

  pub ek_good : check_ek p (ek_of h p d) ≡ 0
  ek_good = ek_passes p (t_hat h p d) (rho_of h p d) (λ i. length_poly _) (λ i. below_remainders _) length-rho

  pub ek_rho_lem : ek_rho p (ek_of h p d) ≡ rho_of h p d
  ek_rho_lem = drop_at (joined (tables p.k (λ i. pack 12 (t_hat h p d i)))) (rho_of h p d) (384 * p.k) (length_packed p.k (t_hat h p d) (λ i. length_poly _) 12)

  length_s : length (joined (tables p.k (λ i. pack 12 (s_hat h p d i)))) ≡ 384 * p.k
  length_s = length_packed p.k (s_hat h p d) (λ i. length_poly _) 12

  module _ (z : List ℕ) where
    pub ek_of_dk : dk_ek p (dk_of h p d z) ≡ ek_of h p d
    ek_of_dk = dk_ek_is p (joined (tables p.k (λ i. pack 12 (s_hat h p d i)))) (ek_of h p d) (h.sha3_256 (ek_of h p d)) z length_s length_ek (fair.sha3_256_length (ek_of h p d))

    pub hash_of_dk : dk_hash p (dk_of h p d z) ≡ h.sha3_256 (ek_of h p d)
    hash_of_dk = dk_hash_is p (joined (tables p.k (λ i. pack 12 (s_hat h p d i)))) (ek_of h p d) (h.sha3_256 (ek_of h p d)) z length_s length_ek (fair.sha3_256_length (ek_of h p d))

    pub dk_length_lem : length z ≡ 32 → length (dk_of h p d z) ≡ 768 * p.k + 96
    dk_length_lem l = length_dk p (joined (tables p.k (λ i. pack 12 (s_hat h p d i)))) (ek_of h p d) (h.sha3_256 (ek_of h p d)) z length_s length_ek (fair.sha3_256_length (ek_of h p d)) l

    pub below_dk : T (all_below 256 z) → T (all_below 256 (dk_of h p d z))
    below_dk b =
        below_append 256 (joined (tables p.k (λ i. pack 12 (s_hat h p d i)))) (ek_of h p d ++ (h.sha3_256 (ek_of h p d) ++ z))
        (below_joined 256 p.k (λ i. pack 12 (s_hat h p d i)) (λ i. below_pack 12 (s_hat h p d i)))
        (below_append 256 (ek_of h p d) (h.sha3_256 (ek_of h p d) ++ z) below_ek (below_append 256 (h.sha3_256 (ek_of h p d)) z (fair.sha3_256_bytes (ek_of h p d)) b))

    pub dk_good : (ek m r : List ℕ) → length z ≡ 32 → check_dk h p (dk_of h p d z) (encrypt h p ek m r) ≡ 0
    dk_good ek m r l =
        passes _ 1 _ (from_both _ _ (eqb_is _ _ (dk_length_lem l)) (eqb_is _ _ (text_bytes h p ek m r).0)) ∙
        passes _ 3 0 (same_lists _ _ (ap h.sha3_256 ek_of_dk ∙ sym hash_of_dk))

    pub one_key : (m : List ℕ) → length m ≡ 32 → T (all_below 256 m) → T (noise_below_quarter h p d z m) → decaps h p (dk_of h p d z) (encaps_text h p (ek_of h p d) m) ≡ encaps_key h (ek_of h p d) m
    one_key m l b quiet =
        decaps_is h p (dk_of h p d z) (ek_of h p d) (encaps_text h p (ek_of h p d) m) m (decrypt_is p (dk_of h p d z) (encaps_text h p (ek_of h p d) m) m l b (ltb→lt _ 3328 quiet)) ek_of_dk hash_of_dk refl

pub exchanges_agree : ExchangesAgree
exchanges_agree h fair p one d z m hd hz hm = (
  ek_good h fair p d,
  dk_good h fair p d z (ek_of h p d) m (drop 32 (key_and_coins h (ek_of h p d) m)) hz.0,
  (dk_length_lem h fair p d z hz.0, below_dk h fair p d z hz.1),
  one_key h fair p d z m hm.0 hm.1,
)
