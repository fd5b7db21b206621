-- A block of a layer, butterfly by butterfly.
use Rattle.std.proofs.Common.{◌≡◌, ℕ, zero, suc, ◌+◌, ◌-◌, ◌*◌, ◌/◌, ◌%◌, ◌^◌, ◌<◌, ◌≤◌, Bool, ◌&&◌, T, eqb, ltb, leb, ◌≢◌, ◌⊎◌, List, length, set, sym, refl, ap, ◌∙◌, ap₂, inl, inr, mod-lt, mul-le-mul_left, arith, eqb→eq, pow_mono}
use Rattle.std.proofs.Math.Nat.{pow-succ'}
use Rattle.std.proofs.lemmas.List.{length-set, get_or-set_same, get_or-set_other}
use Rattle.std.proofs.lemmas.Bool.{cases_eq, cond_both}
use Rattle.standards.specs.Lists.{at, all_below}
use Rattle.standards.specs.Ring.{Poly}
use Rattle.algebra.specs.Layers.{ct_low, ct_high, block_at, gs_low, gs_high, block_to, layer_to, forward_layers, inverse_layers, Factors}
use Rattle.algebra.proofs.Tests.{both, all_to, all_to_lem}
use Rattle.algebra.proofs.Tables.{length-table, at_table, is_table, at_small, below_table}

module _ (g h : ℕ → ℕ → ℕ) (start len : ℕ) where
  pub block_at_low : (d : ℕ) (f : List ℕ) (n : ℕ) → start ≤ n → n < start + d → block_at g h start len d f n ≡ g (at f n) (at f (n + len))
  unfolding block_at
  block_at_low d f n a b = grind arith

  pub block_at_high : (d : ℕ) (f : List ℕ) (n : ℕ) → d ≤ len → start + len ≤ n → n < start + len + d → block_at g h start len d f n ≡ h (at f (n - len)) (at f n)
  unfolding block_at
  block_at_high d f n l a b = grind arith

  pub block_at_before : (d : ℕ) (f : List ℕ) (n : ℕ) → n < start → block_at g h start len d f n ≡ at f n
  unfolding block_at
  block_at_before d f n a = grind arith

  pub block_at_between : (d : ℕ) (f : List ℕ) (n : ℕ) → start + d ≤ n → n < start + len → block_at g h start len d f n ≡ at f n
  unfolding block_at
  block_at_between d f n a b = grind arith

  pub block_at_after : (d : ℕ) (f : List ℕ) (n : ℕ) → d ≤ len → start + len + d ≤ n → block_at g h start len d f n ≡ at f n
  unfolding block_at
  block_at_after d f n l a = grind arith

  pub block_at_other : (d : ℕ) (f : List ℕ) (n : ℕ) → d < len → n ≢ start + d → n ≢ start + len + d → block_at g h start len d f n ≡ block_at g h start len (d + 1) f n
  unfolding block_at
  block_at_other d f n l a b = grind arith

  pub block_none : (f : List ℕ) → length f ≡ 256 → f ≡ block_to g h start len 0 f
  unfolding block_at
  block_none f l = is_table 256 _ f l (λ n _. nothing n)
    where
      nothing : (n : ℕ) → at f n ≡ block_at g h start len 0 f n
      nothing n = grind arith

  module _ (d : ℕ) (f F : List ℕ) (done : F ≡ block_to g h start len d f) (more : d < len) (fits : start + 2 * len ≤ 256) where
    pub block_low : at F (start + d) ≡ at f (start + d)
    block_low = ap (λ x. at x (start + d)) done ∙ (at_table 256 _ (start + d) (omega arith) ∙ block_at_between d f (start + d) (omega arith) (omega arith))

    pub block_high : at F (start + len + d) ≡ at f (start + len + d)
    block_high = ap (λ x. at x (start + len + d)) done ∙ (at_table 256 _ (start + len + d) (omega arith) ∙ block_at_after d f (start + len + d) (omega arith) (omega arith))

    pub block_more : set (set F (start + len + d) (h (at F (start + d)) (at F (start + len + d)))) (start + d) (g (at F (start + d)) (at F (start + len + d))) ≡ block_to g h start len (d + 1) f
    block_more = is_table 256 _ _ (length-set (set F (start + len + d) hi) (start + d) lo ∙ (length-set F (start + len + d) hi ∙ long)) (λ n below. point n below (cases_eq n (start + d)) (cases_eq n (start + len + d)))
      where
        long : length F ≡ 256
        long = ap length done ∙ length-table 256 (block_at g h start len d f)

        lo : ℕ
        lo = g (at F (start + d)) (at F (start + len + d))

        hi : ℕ
        hi = h (at F (start + d)) (at F (start + len + d))

        point : (n : ℕ) → n < 256 → (n ≡ start + d) ⊎ (n ≡ start + d → ⊥) → (n ≡ start + len + d) ⊎ (n ≡ start + len + d → ⊥) → at (set (set F (start + len + d) hi) (start + d) lo) n ≡ block_at g h start len (d + 1) f n
        point n below (inl e) _ =
            rw e
            (get_or-set_same _ (start + d) lo 0 (rw (length-set F (start + len + d) hi) (omega (arith, long))) ∙
            (ap₂ g block_low (block_high ∙ ap (at f) {y = start + d + len} (omega arith)) ∙ sym (block_at_low (d + 1) f (start + d) (omega arith) (omega arith))))
        point n below (inr ne) (inl e) =
            rw e
            (get_or-set_other _ (start + d) (start + len + d) lo 0 (λ x. omega arith) ∙
            (get_or-set_same F (start + len + d) hi 0 (omega (arith, long)) ∙
            (ap₂ h (block_low ∙ ap (at f) {y = start + len + d - len} (omega arith)) block_high ∙ sym (block_at_high (d + 1) f (start + len + d) (omega arith) (omega arith) (omega arith)))))
        point n below (inr ne) (inr nf) =
            get_or-set_other _ (start + d) n lo 0 ne ∙ (get_or-set_other F (start + len + d) n hi 0 nf ∙ (ap (λ x. at x n) done ∙ (at_table 256 _ n below ∙ block_at_other d f n more ne nf)))

  -- what is below q stays below q
  pub block_below : (q : ℕ) → 0 < q → ((x y : ℕ) → g x y < q) → ((x y : ℕ) → h x y < q) → (d : ℕ) (f : List ℕ) → T (all_below q f) → T (all_below q (block_to g h start len d f))
  unfolding block_at
  block_below q p small-g small-h d f b =
      below_table q 256 _
      (λ n _. cond_both (leb start n && ltb n (start + d)) _ _ (λ x. x < q) (λ _. small-g _ _)
      (λ _. cond_both (leb (start + len) n && ltb n (start + len + d)) _ _ (λ x. x < q) (λ _. small-h _ _) (λ _. at_small q f p b n)))

pub layer_to_none : (g h : ℕ → ℕ → ℕ → ℕ) (z : ℕ → ℕ) (len : ℕ) (f : List ℕ) → f ≡ layer_to g h z len 0 f
unfolding layer_to
layer_to_none g h z len f = refl

-- one more block, with the factor c
pub layer_to_more : (g h : ℕ → ℕ → ℕ → ℕ) (z : ℕ → ℕ) (len m : ℕ) (f F G : List ℕ) (c : ℕ) → c ≡ z m → F ≡ layer_to g h z len m f → G ≡ block_to (g c) (h c) (2 * len * m) len len F → G ≡ layer_to g h z len (m + 1) f
unfolding layer_to
layer_to_more g h z len m f F G c e d b =
    b ∙ (ap₂ (λ x y. block_to (g x) (h x) (2 * len * m) len len y) e d ∙ ap (λ x. layer_to g h z len x f) {x = suc m} (omega arith))

pub forward_layers_none : (q : ℕ) (zs : List ℕ) (f : List ℕ) → f ≡ forward_layers q zs 0 f
unfolding forward_layers
forward_layers_none q zs f = refl

-- one more layer
pub forward_layers_more : (q : ℕ) (zs : List ℕ) (l : ℕ) (f F G : List ℕ) → F ≡ forward_layers q zs l f → G ≡ layer_to (ct_low q) (ct_high q) (λ m. at zs (2 ^ l + m)) (128 / 2 ^ l) (2 ^ l) F → G ≡ forward_layers q zs (l + 1) f
unfolding forward_layers
forward_layers_more q zs l f F G d e = e ∙ (ap (layer_to (ct_low q) (ct_high q) (λ m. at zs (2 ^ l + m)) (128 / 2 ^ l) (2 ^ l)) d ∙ ap (λ x. forward_layers q zs x f) {x = suc l} (omega arith))

pub inverse_layers_none : (q : ℕ) (zs : List ℕ) (L : ℕ) (f : List ℕ) → f ≡ inverse_layers q zs L 0 f
unfolding inverse_layers
inverse_layers_none q zs L f = refl

pub inverse_layers_more : (q : ℕ) (zs : List ℕ) (L l : ℕ) (f F G : List ℕ) → F ≡ inverse_layers q zs L l f →
    G ≡ layer_to (gs_low q) (gs_high q) (λ m. at zs (2 * 2 ^ (L - 1 - l) - 1 - m)) (128 / 2 ^ (L - 1 - l)) (2 ^ (L - 1 - l)) F → G ≡ inverse_layers q zs L (l + 1) f
unfolding inverse_layers
inverse_layers_more q zs L l f F G d e =
    e ∙ (ap (layer_to (gs_low q) (gs_high q) (λ m. at zs (2 * 2 ^ (L - 1 - l) - 1 - m)) (128 / 2 ^ (L - 1 - l)) (2 ^ (L - 1 - l))) d ∙ ap (λ x. inverse_layers q zs L x f) {x = suc l} (omega arith))

-- polynomials stay polynomials
module _ (q : ℕ) (pos : 0 < q) where
  pub layer_to_poly : (g h : ℕ → ℕ → ℕ → ℕ) → ((c x y : ℕ) → g c x y < q) → ((c x y : ℕ) → h c x y < q) → (z : ℕ → ℕ) (len m : ℕ) (f : List ℕ) → Poly q f → Poly q (layer_to g h z len m f)
  unfolding layer_to
  layer_to_poly g h sg sh z len zero f b = b
  layer_to_poly g h sg sh z len (suc m) f b = (
    length-table 256 _,
    block_below (g (z m)) (h (z m)) (2 * len * m) len q pos (sg (z m)) (sh (z m)) len (layer_to g h z len m f) (layer_to_poly g h sg sh z len m f b).1,
  )

  pub forward_layer_poly : (z : ℕ → ℕ) (len m : ℕ) (f : List ℕ) → Poly q f → Poly q (layer_to (ct_low q) (ct_high q) z len m f)
  forward_layer_poly = layer_to_poly (ct_low q) (ct_high q) (λ c x y. mod-lt _ pos) (λ c x y. mod-lt _ pos)

  pub inverse_layer_poly : (z : ℕ → ℕ) (len m : ℕ) (f : List ℕ) → Poly q f → Poly q (layer_to (gs_low q) (gs_high q) z len m f)
  inverse_layer_poly = layer_to_poly (gs_low q) (gs_high q) (λ c x y. mod-lt _ pos) (λ c x y. mod-lt _ pos)

  pub forward_layers_poly : (zs : List ℕ) (l : ℕ) (f : List ℕ) → Poly q f → Poly q (forward_layers q zs l f)
  unfolding forward_layers
  forward_layers_poly zs zero f b = b
  forward_layers_poly zs (suc l) f b = forward_layer_poly _ _ (2 ^ l) (forward_layers q zs l f) (forward_layers_poly zs l f b)

  pub inverse_layers_poly : (zs : List ℕ) (L l : ℕ) (f : List ℕ) → Poly q f → Poly q (inverse_layers q zs L l f)
  unfolding inverse_layers
  inverse_layers_poly zs L zero f b = b
  inverse_layers_poly zs L (suc l) f b = inverse_layer_poly _ _ (2 ^ (L - 1 - l)) (inverse_layers q zs L l f) (inverse_layers_poly zs L l f b)

-- block b of the m blocks of a layer lies within the 256 numbers
pub block_fits : (len m b : ℕ) → len * m ≡ 128 → b < m → 2 * len * b + 2 * len ≤ 256
block_fits len m b e h = omega (arith, mul-le-mul_left {m = suc b} {n = m} len h)

-- layer l, of 2^l blocks: the length of a block, and the number of blocks in a word of 64 bits
pub record LayerShape (l : ℕ) : Type 0 where
  pub whole : 128 / 2 ^ l * 2 ^ l ≡ 128
  pub blocks : (1 * 2 ^ l) % 18446744073709551616 ≡ 2 ^ l

pub layer_shape : (l : ℕ) → l < 8 → LayerShape l
unfolding all_to
layer_shape l h =
    let p : ℕ → Bool = λ l. eqb (128 / 2 ^ l * 2 ^ l) 128 && eqb ((1 * 2 ^ l) % 18446744073709551616) (2 ^ l) in
    let t = both (eqb (128 / 2 ^ l * 2 ^ l) 128) (eqb ((1 * 2 ^ l) % 18446744073709551616) (2 ^ l)) (all_to_lem 8 p tt l h) in
    record { whole = eqb→eq _ _ t.0; blocks = eqb→eq _ _ t.1 }

-- factors for all layers are enough for each
pub fewer_factors : (q L l : ℕ) (zs : List ℕ) → l < L → Factors q (2 ^ L) zs → Factors q (2 * 2 ^ l) zs
fewer_factors q L l zs h w = (omega (arith, pow-succ' 2 l, pow_mono {i = suc l} {j = L} h, w.0), w.1)
