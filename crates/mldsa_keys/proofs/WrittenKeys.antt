-- What the rows that the code holds say of the keys. A row of s1, s2 or the matrix has noughts in the empty places of a draw, which changes nothing.
use Rattle.std.proofs.Common.{◌≡◌, ℕ, ◌+◌, ◌-◌, ◌*◌, ◌%◌, ◌<◌, List, ◌++◌, length, take, drop, ap, ◌∙◌, ap₂, arith}
use Rattle.standards.specs.Lists.{at, row_at, tables, joined}
use Rattle.standards.specs.Bytes.{pack}
use Rattle.standards.specs.Ring.{add_p, sum_p}
use Rattle.standards.specs.Hashes.{Hashes, shake256_bytes}
use Rattle.standards.specs.MlDsaParts.{DsaSet, eta_bits, bit_pack, expand_a, expand_s, ntt, ntt_inv, multiply_ntt, power2_round1_p, power2_round0_p}
use Rattle.standards.specs.MlDsa.{key_seeds, t_of, pk_of, sk_of}
use Rattle.algebra.specs.RowArrays.{RowsAre}
use Rattle.algebra.proofs.PolySums.{sum_p-same}
use Rattle.algebra.proofs.RowArrays.{joined_same}
use Rattle.algebra.proofs.Rows.{row_at_lem, length-tables}
use Rattle.algebra.proofs.Tables.{at_table, table_same}
use Rattle.mldsa_laws.specs.Steps.{padded, entry_at}
use Rattle.mldsa_laws.proofs.AttemptSteps.{entry_at_lem, padded_product}
use Rattle.mldsa_laws.proofs.Keys.{ntt-table}
use Rattle.mldsa_keys.specs.KeyRows.{s1_row, s2_row, t_row, sk_parts}

padded_sum : (f g : List ℕ) → add_p 8380417 f (padded g) ≡ add_p 8380417 f g
padded_sum f g = table_same 256 _ _ (λ i l. ap (λ x. (at f i + x) % 8380417) (at_table 256 (at g) i l))

padded_packed : (d b : ℕ) (f : List ℕ) → bit_pack d b (padded f) ≡ bit_pack d b f
padded_packed d b f = ap (pack d) (table_same 256 _ _ (λ i l. ap (λ x. (b + (8380417 - x)) % 8380417) (at_table 256 (at f) i l)))

module _ (h : Hashes) (p : DsaSet) (xi seeds : List ℕ) (a s1 s2 t t1 t0 : List (List ℕ)) (drawn : seeds ≡ key_seeds h p xi)
    (l1 : length s1 ≡ p.l) (l2 : length s2 ≡ p.k) (lt : length t ≡ p.k)
    (ra : RowsAre (p.k * p.l) (entry_at h p.l (take 32 seeds)) a)
    (r1 : RowsAre p.l (s1_row h p seeds) s1)
    (r2 : RowsAre p.k (s2_row h p seeds) s2)
    (rt : RowsAre (length s2) (t_row (length s1) a s1 s2) t)
    (high : t1 ≡ tables (length t) (λ i. power2_round1_p (row_at t i)))
    (low : t0 ≡ tables (length t) (λ i. power2_round0_p (row_at t i))) where
  -- number i of s1 and s2, counted through, and row i of t, of seeds
  abbrev s : List ℕ → ℕ → List ℕ
  s seeds i = expand_s h p.eta (take 64 (drop 32 seeds)) i

  abbrev t_in : List ℕ → ℕ → List ℕ
  t_in seeds i = add_p 8380417 (ntt_inv (sum_p 8380417 p.l (λ j. multiply_ntt (expand_a h (take 32 seeds) i j) (ntt (s seeds j))))) (s seeds (p.l + i))

  t_is : (i : ℕ) → i < p.k → row_at t i ≡ t_of h p xi i
  t_is i hi =
      rt i (omega (arith, l2)) ∙ (ap (λ l. t_row l a s1 s2 i) l1 ∙
      (ap₂ (add_p 8380417)
      (ap ntt_inv (sum_p-same 8380417 p.l _ _ (λ j hj. ap₂ multiply_ntt (entry_at_lem h p.k p.l (take 32 seeds) a ra i j hi hj) (ap ntt (r1 j hj) ∙ ntt-table (s seeds j)) ∙ padded_product (expand_a h (take 32 seeds) i j) (ntt (s seeds j)))))
      (r2 i hi) ∙ (padded_sum _ (s seeds (p.l + i)) ∙ ap (λ x. t_in x i) drawn)))

  t1_is : (i : ℕ) → i < p.k → row_at t1 i ≡ power2_round1_p (t_of h p xi i)
  t1_is i hi = ap (λ v. row_at v i) high ∙ (row_at_lem (length t) _ i (omega (arith, lt)) ∙ ap power2_round1_p (t_is i hi))

  t0_is : (i : ℕ) → i < p.k → row_at t0 i ≡ power2_round0_p (t_of h p xi i)
  t0_is i hi = ap (λ v. row_at v i) low ∙ (row_at_lem (length t) _ i (omega (arith, lt)) ∙ ap power2_round0_p (t_is i hi))

  pk_is : (pk : List ℕ) → pk ≡ take 32 seeds ++ joined (tables (length t1) (λ i. pack 10 (row_at t1 i))) → pk ≡ pk_of h p xi
  pk_is pk e =
      e ∙ ap₂ (λ x y. x ++ y) (ap (take 32) drawn)
      (ap (λ n. joined (tables n (λ i. pack 10 (row_at t1 i)))) (ap length high ∙ (length-tables (length t) _ ∙ lt)) ∙ joined_same p.k _ _ (λ i hi. ap (pack 10) (t1_is i hi)))

  -- a row of s1 or s2, packed
  small_is : (r : List ℕ) (i : ℕ) → r ≡ padded (s seeds i) → bit_pack (eta_bits p) p.eta r ≡ bit_pack (eta_bits p) p.eta (s (key_seeds h p xi) i)
  small_is r i e = ap (bit_pack (eta_bits p) p.eta) e ∙ (padded_packed (eta_bits p) p.eta (s seeds i) ∙ ap (λ x. bit_pack (eta_bits p) p.eta (s x i)) drawn)

  sk_is : (pk sk : List ℕ) → pk ≡ pk_of h p xi → sk ≡ sk_parts h p seeds pk s1 s2 t0 → sk ≡ sk_of h p xi
  sk_is pk sk public e =
      e ∙ ap₂ (λ x y. x ++ y) (ap (take 32) drawn)
      (ap₂ (λ x y. x ++ y) (ap (drop 96) drawn)
      (ap₂ (λ x y. x ++ y) (ap (λ x. shake256_bytes h x 64) public)
      (ap₂ (λ x y. x ++ y) (joined_same p.l _ _ (λ i hi. small_is (row_at s1 i) i (r1 i hi)))
      (ap₂ (λ x y. x ++ y) (joined_same p.k _ _ (λ i hi. small_is (row_at s2 i) (p.l + i) (r2 i hi)))
      (joined_same p.k _ _ (λ i hi. ap (bit_pack 13 4096) (t0_is i hi)))))))

  pub keys_are : (pk sk : List ℕ) → pk ≡ take 32 seeds ++ joined (tables (length t1) (λ i. pack 10 (row_at t1 i))) → sk ≡ sk_parts h p seeds pk s1 s2 t0 →
      (pk ≡ pk_of h p xi) × (sk ≡ sk_of h p xi)
  keys_are pk sk public secret = let is = pk_is pk public in (is, sk_is pk sk is secret)
