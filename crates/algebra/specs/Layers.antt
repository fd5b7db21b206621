-- A transform in place, layer by layer, and its inverse. Assumes nothing.
use Rattle.std.specs.Prelude.{ℕ, zero, suc, ◌+◌, ◌-◌, ◌*◌, ◌/◌, ◌^◌, ◌≤◌, cond, ◌&&◌, T, List, length, nat_le, nat_lt}
use Rattle.standards.specs.Lists.{table, at, all_below}
use Rattle.standards.specs.Bytes.{bit_rev}
use Rattle.standards.specs.Ring.{power}
use Rattle.algebra.specs.Modular.{add_m, sub_m, mul_m}

-- a butterfly on x and y with the factor z, its low and its high number: Cooley and Tukey's, then Gentleman and Sande's of the inverse
abbrev pub ct_low : ℕ → ℕ → ℕ → ℕ → ℕ
ct_low q z x y = add_m q x (mul_m q z y)

abbrev pub ct_high : ℕ → ℕ → ℕ → ℕ → ℕ
ct_high q z x y = sub_m q x (mul_m q z y)

abbrev pub gs_low : ℕ → ℕ → ℕ → ℕ → ℕ
gs_low q z x y = add_m q x y

abbrev pub gs_high : ℕ → ℕ → ℕ → ℕ → ℕ
gs_high q z x y = mul_m q z (sub_m q y x)

-- the first d butterflies of the block of 2 len numbers that begins at start are done; g and h give a butterfly's two numbers
unfoldable pub block_at : (ℕ → ℕ → ℕ) → (ℕ → ℕ → ℕ) → ℕ → ℕ → ℕ → List ℕ → ℕ → ℕ
block_at g h start len d f n =
    cond (nat_le start n && nat_lt n (start + d)) (g (at f n) (at f (n + len)))
    (cond (nat_le (start + len) n && nat_lt n (start + len + d)) (h (at f (n - len)) (at f n)) (at f n))

abbrev pub block_to : (ℕ → ℕ → ℕ) → (ℕ → ℕ → ℕ) → ℕ → ℕ → ℕ → List ℕ → List ℕ
block_to g h start len d f = table 256 (block_at g h start len d f)

-- the first m blocks of a layer whose blocks have 2 len numbers; z gives their factors
unfoldable pub layer_to : (ℕ → ℕ → ℕ → ℕ) → (ℕ → ℕ → ℕ → ℕ) → (ℕ → ℕ) → ℕ → ℕ → List ℕ → List ℕ
layer_to g h z len zero f = f
layer_to g h z len (suc m) f = block_to (g (z m)) (h (z m)) (2 * len * m) len len (layer_to g h z len m f)

-- the first l layers of a transform, and the first l of the L layers of its inverse
unfoldable pub forward_layers : ℕ → List ℕ → ℕ → List ℕ → List ℕ
forward_layers q zs zero f = f
forward_layers q zs (suc l) f = layer_to (ct_low q) (ct_high q) (λ m. at zs (2 ^ l + m)) (128 / 2 ^ l) (2 ^ l) (forward_layers q zs l f)

unfoldable pub inverse_layers : ℕ → List ℕ → ℕ → ℕ → List ℕ → List ℕ
inverse_layers q zs L zero f = f
inverse_layers q zs L (suc l) f =
    let n = L - 1 - l in layer_to (gs_low q) (gs_high q) (λ m. at zs (2 * 2 ^ n - 1 - m)) (128 / 2 ^ n) (2 ^ n) (inverse_layers q zs L l f)

-- the factors of all layers: powers of w, by the index with its L bits reversed
abbrev pub zeta_table : ℕ → ℕ → ℕ → List ℕ
zeta_table q w L = table (2 ^ L) (λ i. power q w (bit_rev L i))

-- at least n factors, all below q
abbrev pub Factors : ℕ → ℕ → List ℕ → Type 0
Factors q n zs = (n ≤ length zs) × T (all_below q zs)
