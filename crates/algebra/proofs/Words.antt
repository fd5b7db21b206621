-- Loops in place over rows of machine words, where v x is the number that the word x stands for.
use Rattle.std.proofs.Common.{◌≡◌, ℕ, ◌+◌, ◌*◌, ◌<◌, ◌≤◌, T, List, map, length, get_or, set, sym, ap, ◌∙◌, subst, ap₂, inl, inr, arith}
use Rattle.std.proofs.lemmas.List.{get_or-map, map-set, length-map, length-set, get_or-set_same, get_or-set_other}
use Rattle.std.proofs.lemmas.Bool.{cases_eq}
use Rattle.standards.specs.Lists.{table, at, all_below}
use Rattle.standards.specs.Ring.{Poly}
use Rattle.algebra.specs.Layers.{block_to}
use Rattle.algebra.proofs.Tables.{length-table, is_table, at_small}
use Rattle.algebra.proofs.Blocks.{block_low, block_high, block_more}

-- ---- one number after the other: below i the row has the numbers t k, from i on those of the row f that the loop began with
pub record Filled (t : ℕ → ℕ) (f : List ℕ) (i : ℕ) (F : List ℕ) : Type 0 where
  pub long : length F ≡ 256
  pub done : (k : ℕ) → k < i → at F k ≡ t k
  pub rest : (k : ℕ) → i ≤ k → at F k ≡ at f k

pub filled_below : (q : ℕ) (t : ℕ → ℕ) (f : List ℕ) (i : ℕ) (F : List ℕ) → 0 < q → T (all_below q f) → Filled t f i F → (k : ℕ) → i ≤ k → at F k < q
filled_below q t f i F pos b w k h = rw (w.rest k h) (at_small q f pos b k)

pub filled_set : (t : ℕ → ℕ) (f : List ℕ) (i : ℕ) (F : List ℕ) (x : ℕ) → i < 256 → x ≡ t i → Filled t f i F → Filled t f (i + 1) (set F i x)
filled_set t f i F x h e w =
    record {
      long = length-set F i x ∙ w.long;
      done = λ k l. elim (cases_eq k i) [ inl s ↦ rw s (get_or-set_same F i x 0 (omega (arith, w.long)) ∙ e) | inr ne ↦ get_or-set_other F i k x 0 ne ∙ w.done k (omega arith) ];
      rest = λ k l. get_or-set_other F i k x 0 (λ s. omega arith) ∙ w.rest k (omega arith);
    }

-- two numbers a turn
pub filled_pair : (t : ℕ → ℕ) (f : List ℕ) (i : ℕ) (F : List ℕ) (x y : ℕ) → i < 128 → x ≡ t (2 * i) → y ≡ t (2 * i + 1) → Filled t f (2 * i) F → Filled t f (2 * (i + 1)) (set (set F (2 * i) x) (2 * i + 1) y)
filled_pair t f i F x y h d e w =
    subst (λ n. Filled t f n (set (set F (2 * i) x) (2 * i + 1) y)) {x = 2 * i + 1 + 1} (omega arith)
    (filled_set t f (2 * i + 1) (set F (2 * i) x) y (omega arith) e (filled_set t f (2 * i) F x (omega arith) d w))

pub filled_all : (t : ℕ → ℕ) (f F : List ℕ) (i : ℕ) → 256 ≤ i → Filled t f i F → F ≡ table 256 t
filled_all t f F i h w = is_table 256 t F w.long (λ k l. w.done k (omega arith))

pub length-numbers : {A : Type 0} (value : A → ℕ) (numbers : List A → List ℕ) → ((xs : List A) → numbers xs ≡ map value xs) → (xs : List A) → length (numbers xs) ≡ length xs
length-numbers value numbers are xs = ap length (are xs) ∙ length-map xs value

module _ {A : Type 0} (v : A → ℕ) where
  pub read : (xs : List A) (i : ℕ) (d : A) → i < length xs → v (get_or xs i d) ≡ at (map v xs) i
  read xs i d h = sym (get_or-map v xs i d 0 h)

  -- a word that was read by index
  pub read_is : (xs : List A) (i : ℕ) (x : A) → x ≡ get_or xs i x → i < length xs → v x ≡ at (map v xs) i
  read_is xs i x e h = ap v e ∙ read xs i x h

  pub read_below : (q : ℕ) → 0 < q → (xs : List A) → T (all_below q (map v xs)) → (i : ℕ) (x : A) → x ≡ get_or xs i x → i < length xs → v x < q
  read_below q pos xs b i x e h = rw (read_is xs i x e h) (at_small q (map v xs) pos b i)

  module _ (t : ℕ → ℕ) (f F : List A) (i : ℕ) (w : Filled t (map v f) i (map v F)) (h : i < 256) where
    -- a word that the loop has not come to
    pub rest_is : (d : A) → v (get_or F i d) ≡ at (map v f) i
    rest_is d = read F i d (omega (arith, length-map F v, w.long)) ∙ w.rest i (omega arith)

    pub rest_below : (q : ℕ) → 0 < q → Poly q (map v f) → (d : A) → v (get_or F i d) < q
    rest_below q pos poly d = rw (rest_is d) (at_small q (map v f) pos poly.1 i)

  -- a word of another row
  pub other_is : (q : ℕ) (f : List A) → Poly q (map v f) → (i : ℕ) → i < 256 → (d : A) → v (get_or f i d) ≡ at (map v f) i
  other_is q f poly i h d = read f i d (omega (arith, length-map f v, poly.0))

  pub other_below : (q : ℕ) → 0 < q → (f : List A) → Poly q (map v f) → (i : ℕ) → i < 256 → (d : A) → v (get_or f i d) < q
  other_below q pos f poly i h d = rw (other_is q f poly i h d) (at_small q (map v f) pos poly.1 i)

  pub filled_more : (t : ℕ → ℕ) (f : List ℕ) (i : ℕ) (F : List A) (x : A) → i < 256 → v x ≡ t i → Filled t f i (map v F) → Filled t f (i + 1) (map v (set F i x))
  filled_more t f i F x h e w = subst (Filled t f (i + 1)) (sym (map-set v F i x)) (filled_set t f i (map v F) (v x) h e w)

  -- the same where each number is op of two that were read, of the row itself and of another
  pub each_more : (op : ℕ → ℕ → ℕ) (f g F : List A) (i : ℕ) (a b x : A) → i < 256 → length (map v g) ≡ 256 → v x ≡ op (v (get_or F i a)) (v (get_or g i b)) →
      Filled (λ k. op (at (map v f) k) (at (map v g) k)) (map v f) i (map v F) → Filled (λ k. op (at (map v f) k) (at (map v g) k)) (map v f) (i + 1) (map v (set F i x))
  each_more op f g F i a b x h l e w =
      filled_more _ (map v f) i F x h (e ∙ ap₂ op (rest_is _ f F i w h a) (read g i b (omega (arith, length-map g v)))) w

  -- ---- a block, butterfly by butterfly; lo and hi are what the butterfly gives of two words that were read
  module _ (g h : ℕ → ℕ → ℕ) (start len d : ℕ) (f F : List A) (done : map v F ≡ block_to g h start len d (map v f)) (more : d < len) (fits : start + 2 * len ≤ 256) where
    long : length F ≡ 256
    long = sym (length-map F v) ∙ (ap length done ∙ length-table 256 _)

    pub words_below : (q : ℕ) → 0 < q → Poly q (map v f) → (a b : A) → (v (get_or F (start + d) a) < q) × (v (get_or F (start + len + d) b) < q)
    words_below q pos poly a b = (
      rw (read F (start + d) a (omega (arith, long)), block_low g h start len d (map v f) (map v F) done more fits) (at_small q (map v f) pos poly.1 (start + d)),
      rw (read F (start + len + d) b (omega (arith, long)), block_high g h start len d (map v f) (map v F) done more fits) (at_small q (map v f) pos poly.1 (start + len + d)),
    )

    pub words_more : (a b lo hi : A) → v lo ≡ g (v (get_or F (start + d) a)) (v (get_or F (start + len + d) b)) → v hi ≡ h (v (get_or F (start + d) a)) (v (get_or F (start + len + d) b)) →
        map v (set (set F (start + len + d) hi) (start + d) lo) ≡ block_to g h start len (d + 1) (map v f)
    words_more a b lo hi e k =
        let x = read F (start + d) a (omega (arith, long)) in
        let y = read F (start + len + d) b (omega (arith, long)) in
        map-set v (set F (start + len + d) hi) (start + d) lo ∙ (ap (λ z. set z (start + d) (v lo)) (map-set v F (start + len + d) hi) ∙
        (ap₂ (λ m n. set (set (map v F) (start + len + d) n) (start + d) m) (e ∙ ap₂ g x y) (k ∙ ap₂ h x y) ∙ block_more g h start len d (map v f) (map v F) done more fits))
