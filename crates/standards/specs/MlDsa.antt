-- FIPS 204: keys, signing with a context, and verifying, over any hashes. Assumes nothing.
use Rattle.std.specs.Prelude.{Bool, true, cond, ◌&&◌, List, [], ◌∷◌, ◌++◌, ℕ, zero, suc, ◌+◌, ◌-◌, ◌*◌, ◌/◌, ◌%◌, eqb, ltb, leb, length, take, drop, set}
use Rattle.standards.specs.Lists.{table, tables, at, row_at, joined, same, all_below, all_full}
use Rattle.standards.specs.Bytes.{pack, unpack}
use Rattle.standards.specs.Ring.{zero_p, add_p, sub_p, sum_p, norms}
use Rattle.standards.specs.Hashes.{Hashes, shake256_bytes}
use Rattle.standards.specs.MlDsaParts.{DsaSet, q, gamma1, beta, bit_pack, bit_unpack, eta_bits, z_bits, w1_encode, hint_bit_pack, hint_count, sample_in_ball, expand_a, expand_s, expand_mask, power2_round1_p, power2_round0_p, high_bits_p, low_bits_p, make_hint_p, use_hint_p, ntt, ntt_inv, multiply_ntt}

-- ---- ML-DSA.KeyGen_internal, of the seed xi
-- (rho, rho', K) is H of xi and the bytes k and l: 32, 64 and 32 bytes
abbrev pub key_seeds : Hashes → DsaSet → List ℕ → List ℕ
key_seeds h p xi = shake256_bytes h (xi ++ (p.k ∷ p.l ∷ [])) 128

abbrev pub rho_of : Hashes → DsaSet → List ℕ → List ℕ
rho_of h p xi = take 32 (key_seeds h p xi)

abbrev pub s1_of : Hashes → DsaSet → List ℕ → ℕ → List ℕ
s1_of h p xi i = expand_s h p.eta (take 64 (drop 32 (key_seeds h p xi))) i

abbrev pub s2_of : Hashes → DsaSet → List ℕ → ℕ → List ℕ
s2_of h p xi i = expand_s h p.eta (take 64 (drop 32 (key_seeds h p xi))) (p.l + i)

-- row i of t = A s1 + s2
abbrev pub t_of : Hashes → DsaSet → List ℕ → ℕ → List ℕ
t_of h p xi i = add_p q (ntt_inv (sum_p q p.l (λ j. multiply_ntt (expand_a h (rho_of h p xi) i j) (ntt (s1_of h p xi j))))) (s2_of h p xi i)

-- pkEncode of rho and t1
abbrev pub pk_of : Hashes → DsaSet → List ℕ → List ℕ
pk_of h p xi = rho_of h p xi ++ joined (tables p.k (λ i. pack 10 (power2_round1_p (t_of h p xi i))))

-- skEncode of rho, K, tr, s1, s2 and t0, where tr is H of the public key
abbrev pub sk_of : Hashes → DsaSet → List ℕ → List ℕ
sk_of h p xi =
    rho_of h p xi ++ (drop 96 (key_seeds h p xi) ++ (shake256_bytes h (pk_of h p xi) 64 ++
    (joined (tables p.l (λ i. bit_pack (eta_bits p) p.eta (s1_of h p xi i))) ++
    (joined (tables p.k (λ i. bit_pack (eta_bits p) p.eta (s2_of h p xi i))) ++ joined (tables p.k (λ i. bit_pack 13 4096 (power2_round0_p (t_of h p xi i))))))))

-- no draw of the keys has failed
abbrev pub keys_drawn : Hashes → DsaSet → List ℕ → Bool
keys_drawn h p xi =
    all_full (tables (p.k * p.l) (λ n. expand_a h (rho_of h p xi) (n / p.l) (n % p.l))) && all_full (tables p.l (s1_of h p xi)) && all_full (tables p.k (s2_of h p xi))

-- ---- lengths
abbrev pub pk_length : DsaSet → ℕ
pk_length p = 32 + 320 * p.k

abbrev pub sk_length : DsaSet → ℕ
sk_length p = 128 + 32 * eta_bits p * (p.l + p.k) + 416 * p.k

abbrev pub sig_length : DsaSet → ℕ
sig_length p = p.lambda / 4 + 32 * z_bits p * p.l + p.omega + p.k

-- ---- skDecode: a secret key's parts, out of its bytes
abbrev pub sk_rho : List ℕ → List ℕ
sk_rho sk = take 32 sk

abbrev pub sk_k : List ℕ → List ℕ
sk_k sk = take 32 (drop 32 sk)

abbrev pub sk_tr : List ℕ → List ℕ
sk_tr sk = take 64 (drop 64 sk)

abbrev pub sk_s1 : DsaSet → List ℕ → ℕ → List ℕ
sk_s1 p sk i = bit_unpack (eta_bits p) p.eta (take (32 * eta_bits p) (drop (128 + 32 * eta_bits p * i) sk))

abbrev pub sk_s2 : DsaSet → List ℕ → ℕ → List ℕ
sk_s2 p sk i = sk_s1 p sk (p.l + i)

abbrev pub sk_t0 : DsaSet → List ℕ → ℕ → List ℕ
sk_t0 p sk i = bit_unpack 13 4096 (take 416 (drop (128 + 32 * eta_bits p * (p.l + p.k) + 416 * i) sk))

-- ---- ML-DSA.Sign. The message with its context: a nought, the context's length, the context, the message
abbrev pub message_prime : List ℕ → List ℕ → List ℕ
message_prime ctx m = 0 ∷ length ctx ∷ (ctx ++ m)

abbrev pub mu_of : Hashes → List ℕ → List ℕ → List ℕ → List ℕ
mu_of h tr ctx m = shake256_bytes h (tr ++ message_prime ctx m) 64

-- one turn of the rejection loop: whether it is kept, and its signature's bytes
pub record Attempt : Type 0 where
  pub good : Bool
  pub bytes : List ℕ

-- with mu, the private seed r (rho'' in the standard) and the counter kappa
abbrev pub attempt : Hashes → DsaSet → List ℕ → List ℕ → List ℕ → ℕ → Attempt
attempt h p sk m r kappa =
    let y = tables p.l (λ i. expand_mask h p r (kappa + i)) in
    let yn = tables p.l (λ i. ntt (row_at y i)) in
    let w = tables p.k (λ i. ntt_inv (sum_p q p.l (λ j. multiply_ntt (expand_a h (sk_rho sk) i j) (row_at yn j)))) in
    let c = shake256_bytes h (m ++ w1_encode p (tables p.k (λ i. high_bits_p p.gamma2 (row_at w i)))) (p.lambda / 4) in
    let cn = ntt (sample_in_ball h p c) in
    let z = tables p.l (λ i. add_p q (row_at y i) (ntt_inv (multiply_ntt cn (ntt (sk_s1 p sk i))))) in
    let v = tables p.k (λ i. sub_p q (row_at w i) (ntt_inv (multiply_ntt cn (ntt (sk_s2 p sk i))))) in
    let ct = tables p.k (λ i. ntt_inv (multiply_ntt cn (ntt (sk_t0 p sk i)))) in
    let hs = tables p.k (λ i. make_hint_p p.gamma2 (sub_p q zero_p (row_at ct i)) (add_p q (row_at v i) (row_at ct i))) in
    record {
      good = ltb (norms q z) (gamma1 p - beta p) && ltb (norms q (tables p.k (λ i. low_bits_p p.gamma2 (row_at v i)))) (p.gamma2 - beta p) && ltb (norms q ct) p.gamma2 && leb (hint_count hs) p.omega;
      bytes = c ++ (joined (tables p.l (λ i. bit_pack (z_bits p) (gamma1 p) (row_at z i))) ++ hint_bit_pack p hs);
    }

abbrev pub or_else : Attempt → List ℕ → List ℕ
or_else t next = cond t.good t.bytes next

-- so many attempts, l more on the counter for each; no bytes if none of them is good
unfoldable pub attempts : ℕ → Hashes → DsaSet → List ℕ → List ℕ → List ℕ → ℕ → List ℕ
attempts zero h p sk m r kappa = []
attempts (suc n) h p sk m r kappa = or_else (attempt h p sk m r kappa) (attempts n h p sk m r (kappa + p.l))

-- The standard sets no bound on the attempts; here there are 1,024 at most. A coin rnd of noughts is deterministic signing.
abbrev pub sign : Hashes → DsaSet → List ℕ → List ℕ → List ℕ → List ℕ → List ℕ
sign h p sk ctx m rnd = let u = mu_of h (sk_tr sk) ctx m in attempts 1024 h p sk u (shake256_bytes h (sk_k sk ++ (rnd ++ u)) 64) 0

-- ---- sigDecode
abbrev pub z_of : DsaSet → List ℕ → ℕ → List ℕ
z_of p s i = bit_unpack (z_bits p) (gamma1 p) (take (32 * z_bits p) (drop (p.lambda / 4 + 32 * z_bits p * i) s))

abbrev pub hint_part : DsaSet → List ℕ → List ℕ
hint_part p s = drop (p.lambda / 4 + 32 * z_bits p * p.l) s

-- HintBitUnpack: where row i's places end and begin, and the places
abbrev pub hint_end : DsaSet → List ℕ → ℕ → ℕ
hint_end p s i = at (hint_part p s) (p.omega + i)

abbrev pub hint_begin : DsaSet → List ℕ → ℕ → ℕ
hint_begin p s i = cond (eqb i 0) 0 (hint_end p s (i - 1))

abbrev pub hint_places : DsaSet → List ℕ → ℕ → List ℕ
hint_places p s i = take (hint_end p s i - hint_begin p s i) (drop (hint_begin p s i) (hint_part p s))

-- each larger than the one before
unfoldable pub rising : List ℕ → Bool
rising [] = true
rising (x ∷ []) = true
rising (x ∷ y ∷ ys) = ltb x y && rising (y ∷ ys)

-- the ends of the first n rows don't fall and are at most omega, and each row's places rise
unfoldable pub hints_rise : DsaSet → List ℕ → ℕ → Bool
hints_rise p s zero = true
hints_rise p s (suc n) = leb (hint_begin p s n) (hint_end p s n) && leb (hint_end p s n) p.omega && rising (hint_places p s n) && hints_rise p s n

-- the bytes between the last place and the ends are noughts
abbrev pub hint_padding_zero : DsaSet → List ℕ → Bool
hint_padding_zero p s = all_below 1 (take (p.omega - hint_end p s (p.k - 1)) (drop (hint_end p s (p.k - 1)) (hint_part p s)))

-- ones at the places
unfoldable pub marked : List ℕ → List ℕ → List ℕ
marked [] c = c
marked (x ∷ xs) c = marked xs (set c x 1)

abbrev pub hint_row : DsaSet → List ℕ → ℕ → List ℕ
hint_row p s i = marked (hint_places p s i) zero_p

-- ---- ML-DSA.Verify
-- pkDecode: row i of t1
abbrev pub pk_t1 : List ℕ → ℕ → List ℕ
pk_t1 pk i = unpack 10 256 (take 320 (drop (32 + 320 * i) pk))

abbrev pub verify : Hashes → DsaSet → List ℕ → List ℕ → List ℕ → List ℕ → Bool
verify h p pk ctx m s =
    let c = take (p.lambda / 4) s in
    let cn = ntt (sample_in_ball h p c) in
    let zn = tables p.l (λ i. ntt (z_of p s i)) in
    let w = tables p.k (λ i. ntt_inv (sub_p q (sum_p q p.l (λ j. multiply_ntt (expand_a h (take 32 pk) i j) (row_at zn j))) (multiply_ntt cn (ntt (table 256 (λ n. (8192 * at (pk_t1 pk i) n) % q)))))) in
    let u = mu_of h (shake256_bytes h pk 64) ctx m in
    eqb (length s) (sig_length p) && eqb (length pk) (pk_length p) && leb (length ctx) 255 && hints_rise p s p.k && hint_padding_zero p s &&
    ltb (norms q (tables p.l (z_of p s))) (gamma1 p - beta p) &&
    same c (shake256_bytes h (u ++ w1_encode p (tables p.k (λ i. use_hint_p p.gamma2 (hint_row p s i) (row_at w i)))) (p.lambda / 4))
