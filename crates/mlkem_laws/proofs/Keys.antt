-- The parts of keys and texts: lengths, and what is found at their places.
use Rattle.std.proofs.Common.{◌≡◌, ℕ, ◌+◌, ◌*◌, ◌%◌, ◌<◌, T, List, ◌++◌, length, take, drop, sym, refl, ap, ◌∙◌, mod-eq_of_lt, arith, lit<, lit≤}
use Rattle.std.proofs.lemmas.List.{length-append, append_assoc, take_at, drop_at}
use Rattle.std.proofs.lemmas.Nat.{mod_below}
use Rattle.standards.specs.Lists.{table, tables, at, joined, all_below}
use Rattle.standards.specs.Bytes.{pack, unpack}
use Rattle.standards.specs.MlKemParts.{KemSet, compress_p}
use Rattle.standards.specs.MlKem.{key_row, check_ek, dk_ek, dk_hash}
use Rattle.algebra.proofs.Tests.{passes, eqb_is, same_lists}
use Rattle.algebra.proofs.Tables.{length-table, is_table, at_below, below_table, below_weaker}
use Rattle.algebra.proofs.Packing.{length-pack, unpack-pack}
use Rattle.algebra.proofs.Rows.{length-joined, piece, tables-same}

-- ---- polynomials of remainders
pub length_poly : (f : ℕ → ℕ) → length (table 256 f) ≡ 256
length_poly f = length-table 256 f

pub below_remainders : (f : ℕ → ℕ) → T (all_below 3329 (table 256 (λ i. f i % 3329)))
below_remainders f = below_table 3329 256 _ (λ i _. mod_below (f i) 3329 (lit< tt))

-- ---- polynomials packed one after the other, with something behind them
module _ (n : ℕ) (f : ℕ → List ℕ) (long : (i : ℕ) → length (f i) ≡ 256) where
  pub length_packed : (d : ℕ) → length (joined (tables n (λ i. pack d (f i)))) ≡ 32 * d * n
  length_packed d = length-joined (32 * d) (λ i. pack d (f i)) (λ i. length-pack d 256 (32 * d) (f i) (omega arith) (long i)) n

  pub packed_at : (d : ℕ) (rest : List ℕ) (i : ℕ) → i < n → take (32 * d) (drop (32 * d * i) (joined (tables n (λ i. pack d (f i))) ++ rest)) ≡ pack d (f i)
  packed_at d rest i h = piece (32 * d) (λ i. pack d (f i)) (λ i. length-pack d 256 (32 * d) (f i) (omega arith) (long i)) n i h rest

  module _ (small : (i : ℕ) → T (all_below 3329 (f i))) (rest : List ℕ) where
    pub poly_at : (i : ℕ) → i < n → key_row (joined (tables n (λ i. pack 12 (f i))) ++ rest) i ≡ f i
    poly_at i h = sym (is_table 256 _ (f i) (long i) (λ k l. sym (each k l)))
      where
        each : (k : ℕ) → k < 256 → at (unpack 12 256 (take 384 (drop (384 * i) (joined (tables n (λ i. pack 12 (f i))) ++ rest)))) k % 3329 ≡ at (f i) k
        each k l =
            ap (λ x. at (unpack 12 256 x) k % 3329) (packed_at 12 rest i h) ∙
            (ap (λ x. at x k % 3329) (unpack-pack 12 256 384 (f i) refl (long i) (below_weaker 3329 4096 (f i) (lit≤ tt) (small i))) ∙ mod-eq_of_lt (at_below 3329 (f i) k (small i) (omega (arith, long i))))

    pub packed_again : joined (tables n (λ i. pack 12 (key_row (joined (tables n (λ i. pack 12 (f i))) ++ rest) i))) ≡ joined (tables n (λ i. pack 12 (f i)))
    packed_again = ap joined (tables-same n (λ i. pack 12 (key_row (joined (tables n (λ i. pack 12 (f i))) ++ rest) i)) (λ i. pack 12 (f i)) (λ i h. ap (pack 12) (poly_at i h)))

pub ek_passes : (p : KemSet) (f : ℕ → List ℕ) (rho : List ℕ) → ((i : ℕ) → length (f i) ≡ 256) → ((i : ℕ) → T (all_below 3329 (f i))) → length rho ≡ 32 →
    check_ek p (joined (tables p.k (λ i. pack 12 (f i))) ++ rho) ≡ 0
ek_passes p f rho long small l =
    passes _ 1 _ (eqb_is _ _ (length-append (joined (tables p.k (λ i. pack 12 (f i)))) rho ∙ omega (arith, l, length_packed p.k f long 12))) ∙
    passes _ 2 0 (same_lists _ _ (packed_again p.k f long small rho ∙ sym (take_at (joined (tables p.k (λ i. pack 12 (f i)))) rho (384 * p.k) (length_packed p.k f long 12))))

-- ---- the parts of a secret key
module _ (p : KemSet) (s ek hash z : List ℕ) (ls : length s ≡ 384 * p.k) (le : length ek ≡ 384 * p.k + 32) (lh : length hash ≡ 32) where
  pub dk_ek_is : dk_ek p (s ++ (ek ++ (hash ++ z))) ≡ ek
  dk_ek_is = ap (take (384 * p.k + 32)) (drop_at s (ek ++ (hash ++ z)) (384 * p.k) ls) ∙ take_at ek (hash ++ z) (384 * p.k + 32) le

  pub dk_hash_is : dk_hash p (s ++ (ek ++ (hash ++ z))) ≡ hash
  dk_hash_is =
      ap (λ x. take 32 (drop (768 * p.k + 32) x)) (sym (append_assoc s ek (hash ++ z))) ∙
      (ap (take 32) (drop_at (s ++ ek) (hash ++ z) (768 * p.k + 32) (length-append s ek ∙ omega arith)) ∙ take_at hash z 32 lh)

  pub length_dk : length z ≡ 32 → length (s ++ (ek ++ (hash ++ z))) ≡ 768 * p.k + 96
  length_dk lz = length-append s (ek ++ (hash ++ z)) ∙ omega (arith, length-append ek (hash ++ z), length-append hash z)

-- ---- the length of a text
pub length_text : (n du dv : ℕ) (u : ℕ → List ℕ) (v : List ℕ) → length (joined (tables n (λ i. pack du (compress_p du (u i)))) ++ pack dv (compress_p dv v)) ≡ 32 * (du * n + dv)
length_text n du dv u v =
    length-append (joined (tables n (λ i. pack du (compress_p du (u i))))) (pack dv (compress_p dv v)) ∙
    omega (arith, length_packed n (λ i. compress_p du (u i)) (λ i. length-table 256 _) du, length-pack dv 256 (32 * dv) (compress_p dv v) (omega arith) (length-table 256 _))
