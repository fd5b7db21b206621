-- Rows of machine words as rows of numbers: `value` is the number of a word, `numbers` those of a list of words.
use Rattle.std.proofs.Common.{◌≡◌, ℕ, ◌^◌, ◌<◌, T, List, map, length, sym, ap, ◌∙◌, subst, ap₂, mod-lt, arith}
use Rattle.std.proofs.lemmas.List.{length-map}
use Rattle.standards.specs.Lists.{table, all_below}
use Rattle.standards.specs.Bytes.{bit_rev}
use Rattle.standards.specs.Ring.{Poly, power}
use Rattle.algebra.specs.Modular.{scaled}
use Rattle.algebra.specs.Layers.{forward_layers, inverse_layers, zeta_table, Factors}
use Rattle.algebra.proofs.Tables.{length-table, below_table}
use Rattle.algebra.proofs.Congruence.{power_is}
use Rattle.algebra.proofs.Blocks.{forward_layers_poly, inverse_layers_poly}

-- a table of remainders is below q
pub table_below : (q : ℕ) (t : ℕ → ℕ) (F : List ℕ) → ((k : ℕ) → t k < q) → F ≡ table 256 t → T (all_below q F)
table_below q t F h e = subst (λ x. T (all_below q x)) (sym e) (below_table q 256 t (λ k _. h k))

-- the powers of a root are factors for all layers
pub zeta_factors_of : (q w L : ℕ) (zs : List ℕ) → 0 < q → zs ≡ zeta_table q w L → Factors q (2 ^ L) zs
zeta_factors_of q w L zs pos e =
    subst (Factors q (2 ^ L)) (sym e)
    (omega (arith, length-table (2 ^ L) (λ i. power q w (bit_rev L i))), below_table q (2 ^ L) _ (λ k _. rw (power_is q w (bit_rev L k)) (mod-lt _ pos)))

module _ {A : Type 0} (value : A → ℕ) (numbers : List A → List ℕ) (are : (xs : List A) → numbers xs ≡ map value xs) (q : ℕ) where
  pub row_poly : (f : List A) → length f ≡ 256 → T (all_below q (numbers f)) → Poly q (map value f)
  row_poly f l b = (length-map f value ∙ l, subst (λ x. T (all_below q x)) (are f) b)

  pub row_below : (f : List A) (x : List ℕ) → map value f ≡ x → T (all_below q x) → T (all_below q (numbers f))
  row_below f x e b = subst (λ y. T (all_below q y)) (sym (are f ∙ e)) b

  pub row_two : (op : List ℕ → List ℕ → List ℕ) (f g F : List A) → map value F ≡ op (map value f) (map value g) → numbers F ≡ op (numbers f) (numbers g)
  row_two op f g F e = are F ∙ (e ∙ sym (ap₂ op (are f) (are g)))

  -- ---- the transforms with their table of factors, in n layers
  module _ (w L n : ℕ) (zs f : List A) (e : numbers zs ≡ zeta_table q w L) (same : n ≡ L) (pos : 0 < q) (b : Poly q (map value f)) where
    table_is : map value zs ≡ zeta_table q w n
    table_is = sym (are zs) ∙ (e ∙ ap (zeta_table q w) (sym same))

    pub row_factors : Factors q (2 ^ n) (map value zs)
    row_factors = zeta_factors_of q w n (map value zs) pos table_is

    pub numbers_poly : Poly q (numbers f)
    numbers_poly = subst (Poly q) (sym (are f)) b

    pub row_forward : (F : List A) → map value F ≡ forward_layers q (map value zs) n (map value f) → numbers F ≡ forward_layers q (zeta_table q w L) L (numbers f)
    row_forward F h = are F ∙ (h ∙ (ap₂ (λ z x. forward_layers q z n x) table_is (sym (are f)) ∙ ap (λ l. forward_layers q (zeta_table q w l) l (numbers f)) same))

    pub forward_below : (F : List A) → map value F ≡ forward_layers q (map value zs) n (map value f) → T (all_below q (numbers F))
    forward_below F h = row_below F _ h (forward_layers_poly q pos (map value zs) n (map value f) b).1

    pub inverse_poly : (F : List A) → map value F ≡ inverse_layers q (map value zs) n n (map value f) → Poly q (map value F)
    inverse_poly F h = subst (Poly q) (sym h) (inverse_layers_poly q pos (map value zs) n n (map value f) b)

    pub row_inverse : (c d : ℕ) → d ≡ c → (F G : List A) → map value F ≡ inverse_layers q (map value zs) n n (map value f) → map value G ≡ scaled q d (map value F) →
        numbers G ≡ scaled q c (inverse_layers q (zeta_table q w L) L L (numbers f))
    row_inverse c d p F G h k =
        are G ∙ (k ∙ ap₂ (scaled q) p (h ∙ (ap₂ (λ z x. inverse_layers q z n n x) table_is (sym (are f)) ∙ ap (λ l. inverse_layers q (zeta_table q w l) l l (numbers f)) same)))
