-- The parts of a pair of keys, out of its bytes.
use Rattle.std.proofs.Common.{◌≡◌, ℕ, ◌+◌, ◌-◌, ◌*◌, ◌%◌, ◌<◌, T, List, [], ◌++◌, length, take, drop, sym, refl, ap, ◌∙◌, subst, append-nil, mod-lt, arith, lit<, length-append}
use Rattle.std.proofs.lemmas.List.{take_at, length-take-le, length-drop}
use Rattle.standards.specs.Lists.{table, tables, at, joined, all_below}
use Rattle.standards.specs.Bytes.{pack, unpack}
use Rattle.standards.specs.Ring.{power}
use Rattle.standards.specs.Hashes.{Hashes, Fair, shake256_bytes}
use Rattle.standards.specs.Ring.{sum_p}
use Rattle.standards.specs.MlDsaParts.{DsaSet, eta_bits, ntt, ntt_at, zeta, ntt_inv, multiply_ntt, expand_a, power2_round1, power2_round0, power2_round1_p, power2_round0_p, bit_pack, bit_unpack}
use Rattle.standards.specs.MlDsa.{key_seeds, rho_of, s1_of, s2_of, t_of, pk_of, sk_of, sk_rho, sk_tr, sk_s1, sk_s2, sk_t0, pk_t1}
use Rattle.algebra.proofs.Sums.{sum_same}
use Rattle.algebra.proofs.Congruence.{Same, ◌▸◌, same_is, same_add}
use Rattle.algebra.proofs.Tables.{length-table, at_table, table_same, below_table, below_append, below_take, below_drop}
use Rattle.algebra.proofs.PolySums.{sum_p-same}
use Rattle.mldsa_laws.proofs.CheckEquation.{add_at}
use Rattle.algebra.proofs.Packing.{length-pack, below_pack}
use Rattle.algebra.proofs.Draws.{draw_all}
use Rattle.algebra.proofs.Rows.{drop_past, length-joined, piece, below_joined}
use Rattle.mldsa_laws.proofs.BitPacking.{length-bit_pack, unpack-table, bit_unpack-bit_pack, shift_below, t_parts, Tiny, tiny_zero}
use Rattle.mldsa_laws.proofs.Sets.{Fit}

pub ntt-table : (f : List ℕ) → ntt (table 256 (at f)) ≡ ntt f
ntt-table f = table_same 256 (ntt_at (table 256 (at f))) (ntt_at f) (λ n _. ap (λ x. x % 8380417) (sum_same 256 _ _ (λ j l. ap (λ x. x * power 8380417 (zeta n) j) (at_table 256 (at f) j l))))

-- ---- six parts one after the other: 32, 32 and 64 bytes, l and k pieces of w bytes, k pieces of 416
pub record Parts (bytes a c : List ℕ) (w l k : ℕ) (f g t : ℕ → List ℕ) : Type 0 where
  pub first : take 32 bytes ≡ a
  pub third : take 64 (drop 64 bytes) ≡ c
  pub fourth : (i : ℕ) → i < l → take w (drop (128 + w * i) bytes) ≡ f i
  pub fifth : (i : ℕ) → i < k → take w (drop (128 + w * (l + i)) bytes) ≡ g i
  pub sixth : (i : ℕ) → i < k → take 416 (drop (128 + w * (l + k) + 416 * i) bytes) ≡ t i

pub parts : (a b c : List ℕ) → length a ≡ 32 → length b ≡ 32 → length c ≡ 64 → (w l k : ℕ) (f g t : ℕ → List ℕ) → ((i : ℕ) → length (f i) ≡ w) → ((i : ℕ) → length (g i) ≡ w) → ((i : ℕ) → length (t i) ≡ 416) →
    Parts (a ++ (b ++ (c ++ (joined (tables l f) ++ (joined (tables k g) ++ joined (tables k t)))))) a c w l k f g t
parts a b c la lb lc w l k f g t lf lg lt =
    record {
      first = take_at a _ 32 la;
      third = ap (take 64) (drop_past a _ 32 32 64 la refl ∙ drop_past b _ 32 0 32 lb refl) ∙ take_at c _ 64 lc;
      fourth = λ i h. ap (take w) (past (w * i)) ∙ piece w f lf l i h _;
      fifth = λ i h. ap (take w) (past (w * (l + i)) ∙ drop_past (joined (tables l f)) _ (w * l) (w * i) (w * (l + i)) (length-joined w f lf l) (omega arith)) ∙ piece w g lg k i h _;
      sixth = λ i h.
          ap (take 416)
          (ap (λ n. drop n bytes) {x = 128 + w * (l + k) + 416 * i} {y = 128 + (w * (l + k) + 416 * i)} (omega arith) ∙
          (past (w * (l + k) + 416 * i) ∙
          (drop_past (joined (tables l f)) _ (w * l) (w * k + 416 * i) (w * (l + k) + 416 * i) (length-joined w f lf l) (omega arith) ∙
          (drop_past (joined (tables k g)) _ (w * k) (416 * i) (w * k + 416 * i) (length-joined w g lg k) refl ∙ ap (drop (416 * i)) (sym (append-nil (joined (tables k t)))))))) ∙
          piece 416 t lt k i h [];
    }
  where
    bytes : List ℕ
    bytes = a ++ (b ++ (c ++ (joined (tables l f) ++ (joined (tables k g) ++ joined (tables k t)))))

    past : (n : ℕ) → drop (128 + n) bytes ≡ drop n (joined (tables l f) ++ (joined (tables k g) ++ joined (tables k t)))
    past n = drop_past a _ 32 (96 + n) (128 + n) la (omega arith) ∙ (drop_past b _ 32 (64 + n) (96 + n) lb (omega arith) ∙ drop_past c _ 64 n (64 + n) lc refl)

module _ (h : Hashes) (p : DsaSet) (fits : Fit p) (xi : List ℕ) where
  seeds_long : length (key_seeds h p xi) ≡ 128
  seeds_long = length-table 128 _

  rho_long : length (rho_of h p xi) ≡ 32
  rho_long = length-take-le 32 (key_seeds h p xi) (omega (arith, seeds_long))

  k_long : length (drop 96 (key_seeds h p xi)) ≡ 32
  k_long = length-drop 96 (key_seeds h p xi) ∙ omega (arith, seeds_long)

  tr_long : length (shake256_bytes h (pk_of h p xi) 64) ≡ 64
  tr_long = length-table 64 _

  sk_parts : Parts (sk_of h p xi) (rho_of h p xi) (shake256_bytes h (pk_of h p xi) 64) (32 * eta_bits p) p.l p.k (λ i. bit_pack (eta_bits p) p.eta (s1_of h p xi i)) (λ i. bit_pack (eta_bits p) p.eta (s2_of h p xi i)) (λ i. bit_pack 13 4096 (power2_round0_p (t_of h p xi i)))
  sk_parts =
      parts (rho_of h p xi) (drop 96 (key_seeds h p xi)) (shake256_bytes h (pk_of h p xi) 64) rho_long k_long tr_long (32 * eta_bits p) p.l p.k _ _ _
      (λ i. length-bit_pack (eta_bits p) p.eta (s1_of h p xi i)) (λ i. length-bit_pack (eta_bits p) p.eta (s2_of h p xi i)) (λ i. length-bit_pack 13 4096 (power2_round0_p (t_of h p xi i)))

  pub s1_tiny : (i n : ℕ) → Tiny p.eta (at (s1_of h p xi i) n)
  s1_tiny i n = draw_all (Tiny p.eta) (tiny_zero p.eta) _ _ (λ k e. fits.tiny _ e) 2048 0 256 n

  pub s2_tiny : (i n : ℕ) → Tiny p.eta (at (s2_of h p xi i) n)
  s2_tiny i n = draw_all (Tiny p.eta) (tiny_zero p.eta) _ _ (λ k e. fits.tiny _ e) 2048 0 256 n

  tiny_back : (f : List ℕ) → ((n : ℕ) → Tiny p.eta (at f n)) → bit_unpack (eta_bits p) p.eta (bit_pack (eta_bits p) p.eta f) ≡ table 256 (at f)
  tiny_back f t =
      bit_unpack-bit_pack (eta_bits p) p.eta f (omega (arith, fits.eta_small)) (λ n _. (t n).small)
      (λ n _. omega (arith, shift_below p.eta p.eta (at f n) (t n).small (t n).close (omega arith) (omega (arith, fits.eta_small)), fits.eta_fits))

  t_small : (i n : ℕ) → n < 256 → at (t_of h p xi i) n < 8380417
  t_small i n l = subst (λ x. x < 8380417) (sym (at_table 256 _ n l)) (mod-lt _ (lit< tt))

  pub sk_rho_lem : sk_rho (sk_of h p xi) ≡ rho_of h p xi
  sk_rho_lem = sk_parts.first

  pub pk_rho : take 32 (pk_of h p xi) ≡ rho_of h p xi
  pk_rho = take_at (rho_of h p xi) _ 32 rho_long

  pub sk_tr_lem : sk_tr (sk_of h p xi) ≡ shake256_bytes h (pk_of h p xi) 64
  sk_tr_lem = sk_parts.third

  pub sk_s1_lem : (i : ℕ) → i < p.l → sk_s1 p (sk_of h p xi) i ≡ table 256 (at (s1_of h p xi i))
  sk_s1_lem i l =
      ap (bit_unpack (eta_bits p) p.eta) (sk_parts.fourth i l) ∙
      tiny_back (s1_of h p xi i) (s1_tiny i)

  pub sk_s2_lem : (i : ℕ) → i < p.k → sk_s2 p (sk_of h p xi) i ≡ table 256 (at (s2_of h p xi i))
  sk_s2_lem i l =
      ap (bit_unpack (eta_bits p) p.eta) (sk_parts.fifth i l) ∙
      tiny_back (s2_of h p xi i) (s2_tiny i)

  pub sk_t0_lem : (i : ℕ) → i < p.k → sk_t0 p (sk_of h p xi) i ≡ power2_round0_p (t_of h p xi i)
  sk_t0_lem i l =
      ap (bit_unpack 13 4096) (sk_parts.sixth i l) ∙
      (bit_unpack-bit_pack 13 4096 (power2_round0_p (t_of h p xi i)) (lit< tt) (λ n b. subst (λ x. x < 8380417) (sym (t0-at n b)) (mod-lt _ (lit< tt)))
      (λ n b. subst (λ x. (4096 + (8380417 - x)) % 8380417 < 8192) (sym (t0-at n b)) (t_parts (at (t_of h p xi i) n) (t_small i n b)).1) ∙
      table_same 256 _ _ t0-at)
    where
      t0-at : (n : ℕ) → n < 256 → at (power2_round0_p (t_of h p xi i)) n ≡ power2_round0 (at (t_of h p xi i) n)
      t0-at n b = at_table 256 (λ m. power2_round0 (at (t_of h p xi i) m)) n b

  t1_each : (i : ℕ) → length (pack 10 (power2_round1_p (t_of h p xi i))) ≡ 320
  t1_each i = length-pack 10 256 320 (power2_round1_p (t_of h p xi i)) refl (length-table 256 _)

  pub pk_long : length (pk_of h p xi) ≡ 32 + 320 * p.k
  pk_long = length-append (rho_of h p xi) _ ∙ omega (arith, rho_long, length-joined 320 (λ i. pack 10 (power2_round1_p (t_of h p xi i))) t1_each p.k)

  pub sk_long : length (sk_of h p xi) ≡ 128 + 32 * eta_bits p * (p.l + p.k) + 416 * p.k
  sk_long =
      length-append (rho_of h p xi) _ ∙
      omega (
        arith,
        rho_long,
        length-append (drop 96 (key_seeds h p xi)) (shake256_bytes h (pk_of h p xi) 64 ++ (S1 ++ (S2 ++ T0))),
        k_long,
        length-append (shake256_bytes h (pk_of h p xi) 64) (S1 ++ (S2 ++ T0)),
        tr_long,
        length-append S1 (S2 ++ T0),
        length-joined (32 * eta_bits p) (λ i. bit_pack (eta_bits p) p.eta (s1_of h p xi i)) (λ i. length-bit_pack (eta_bits p) p.eta (s1_of h p xi i)) p.l,
        length-append S2 T0,
        length-joined (32 * eta_bits p) (λ i. bit_pack (eta_bits p) p.eta (s2_of h p xi i)) (λ i. length-bit_pack (eta_bits p) p.eta (s2_of h p xi i)) p.k,
        length-joined 416 (λ i. bit_pack 13 4096 (power2_round0_p (t_of h p xi i))) (λ i. length-bit_pack 13 4096 (power2_round0_p (t_of h p xi i))) p.k,
      )
    where
      S1 : List ℕ
      S1 = joined (tables p.l (λ i. bit_pack (eta_bits p) p.eta (s1_of h p xi i)))

      S2 : List ℕ
      S2 = joined (tables p.k (λ i. bit_pack (eta_bits p) p.eta (s2_of h p xi i)))

      T0 : List ℕ
      T0 = joined (tables p.k (λ i. bit_pack 13 4096 (power2_round0_p (t_of h p xi i))))

  module _ (fair : Fair h) where
    seeds_bytes : T (all_below 256 (key_seeds h p xi))
    seeds_bytes = below_table 256 128 _ (λ i _. fair.shake256_byte _ i)

    pub pk_bytes : T (all_below 256 (pk_of h p xi))
    pk_bytes = below_append 256 (rho_of h p xi) _ (below_take 256 32 (key_seeds h p xi) seeds_bytes) (below_joined 256 p.k (λ i. pack 10 (power2_round1_p (t_of h p xi i))) (λ i. below_pack 10 (power2_round1_p (t_of h p xi i))))

    pub sk_bytes : T (all_below 256 (sk_of h p xi))
    sk_bytes =
        below_append 256 (rho_of h p xi) _ (below_take 256 32 (key_seeds h p xi) seeds_bytes)
        (below_append 256 (drop 96 (key_seeds h p xi)) _ (below_drop 256 96 (key_seeds h p xi) seeds_bytes)
        (below_append 256 (shake256_bytes h (pk_of h p xi) 64) _ (below_table 256 64 _ (λ i _. fair.shake256_byte _ i))
        (below_append 256 (joined (tables p.l (λ i. bit_pack (eta_bits p) p.eta (s1_of h p xi i)))) _ (below_joined 256 p.l (λ i. bit_pack (eta_bits p) p.eta (s1_of h p xi i)) (λ i. below_pack (eta_bits p) _))
        (below_append 256 (joined (tables p.k (λ i. bit_pack (eta_bits p) p.eta (s2_of h p xi i)))) _ (below_joined 256 p.k (λ i. bit_pack (eta_bits p) p.eta (s2_of h p xi i)) (λ i. below_pack (eta_bits p) _))
        (below_joined 256 p.k (λ i. bit_pack 13 4096 (power2_round0_p (t_of h p xi i))) (λ i. below_pack 13 _))))))

  pub pk_t1_lem : (i : ℕ) → i < p.k → pk_t1 (pk_of h p xi) i ≡ power2_round1_p (t_of h p xi i)
  pk_t1_lem i l =
      ap (unpack 10 256)
      (ap (take 320) (drop_past (rho_of h p xi) _ 32 (320 * i) (32 + 320 * i) rho_long refl ∙ ap (drop (320 * i)) (sym (append-nil (joined (tables p.k (λ i. pack 10 (power2_round1_p (t_of h p xi i)))))))) ∙
      piece 320 (λ i. pack 10 (power2_round1_p (t_of h p xi i))) t1_each p.k i l []) ∙
      unpack-table 10 (λ n. power2_round1 (at (t_of h p xi i) n)) (λ n b. (t_parts (at (t_of h p xi i) n) (t_small i n b)).0)

  -- t1 2^13 + t0 = A s1 + s2, of what stands in the keys
  pub key_is : (i : ℕ) → i < p.k → (n : ℕ) → n < 256 →
      Same 8380417 (at (table 256 (λ m. (8192 * at (pk_t1 (pk_of h p xi) i) m) % 8380417)) n + at (sk_t0 p (sk_of h p xi) i) n)
      (at (ntt_inv (sum_p 8380417 p.l (λ j. multiply_ntt (expand_a h (rho_of h p xi) i j) (ntt (sk_s1 p (sk_of h p xi) j))))) n + at (sk_s2 p (sk_of h p xi) i) n)
  key_is i li n ln =
      same_add (same_is (at_table 256 (λ m. (8192 * at (pk_t1 (pk_of h p xi) i) m) % 8380417) n ln ∙ (ap (λ f. (8192 * at f n) % 8380417) (pk_t1_lem i li) ∙ ap (λ x. (8192 * x) % 8380417) (at_table 256 (λ m. power2_round1 (at (t_of h p xi i) m)) n ln)))) (same_is (ap (λ f. at f n) (sk_t0_lem i li) ∙ at_table 256 (λ m. power2_round0 (at (t_of h p xi i) m)) n ln)) ▸
      (t_parts (at (t_of h p xi i) n) (t_small i n ln)).2 ▸
      add_at (ntt_inv (sum_p 8380417 p.l (λ j. multiply_ntt (expand_a h (rho_of h p xi) i j) (ntt (s1_of h p xi j))))) (s2_of h p xi i) n ln ▸
      same_add (same_is (ap (λ f. at (ntt_inv f) n) (sum_p-same 8380417 p.l _ _ (λ j lj. ap (multiply_ntt (expand_a h (rho_of h p xi) i j)) (sym (ap ntt (sk_s1_lem j lj) ∙ ntt-table (s1_of h p xi j))))))) (same_is (sym (ap (λ f. at f n) (sk_s2_lem i li) ∙ at_table 256 (at (s2_of h p xi i)) n ln)))
