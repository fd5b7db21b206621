-- The two lemmas on rounding that signatures rest on. Over any g and N with 2 g (N + 1) + 1 = q.
use Rattle.std.proofs.Common.{◌≡◌, ℕ, zero, suc, ◌+◌, ◌-◌, ◌*◌, ◌/◌, ◌%◌, ◌<◌, ◌≤◌, true, false, cond, ◌&&◌, ltb, leb, ◌⊎◌, sym, ap, ◌∙◌, inl, inr, mod-eq_of_lt, arith}
use Rattle.std.proofs.lemmas.Nat.{mod-mul-add}
use Rattle.std.proofs.lemmas.Bool.{cases_lt, cases_eq, cond-true, cond-false, le-leb, lt-leb, lt-ltb, eq-eqb, ne_eqb, and_from, and_right}
use Rattle.standards.specs.Ring.{magnitude}
use Rattle.standards.specs.MlDsaParts.{high_bits, low_bits, make_hint, use_hint, low_is_positive}
use Rattle.algebra.proofs.Norms.{magnitude_cases}
use Rattle.mldsa_laws.proofs.Decompose.{View, up, down, wrap, room, whole_by, view, high_up, high_down, high_wrap, low_up, low_down, low_wrap}

pub magnitude-small : (x : ℕ) → 2 * x ≤ 8380417 → magnitude 8380417 x ≡ x
magnitude-small x l = cond-true _ _ _ (le-leb (2 * x) 8380417 l)

pub magnitude_minus : (x : ℕ) → 2 * x ≤ 8380417 → magnitude 8380417 (8380417 - x) ≡ x
magnitude_minus x l = cond-false _ _ _ (lt-leb (2 * (8380417 - x)) 8380417 (omega arith)) ∙ omega arith

-- a number near 0 is s or -s
pub near_cases : (s B : ℕ) → s < 8380417 → magnitude 8380417 s ≤ B → (s ≤ B) ⊎ ((b : ℕ) × (b + s ≡ 8380417) × (b ≤ B))
near_cases s B l h = elim (magnitude_cases 8380417 s) [ inl p ↦ inl (omega arith) | inr p ↦ inr (8380417 - s, omega arith, omega arith) ]

module _ (g N : ℕ) (pos : 0 < g) (whole : 2 * g * suc N + 1 ≡ 8380417) where
  half : 2 * g ≤ 8380416
  half = omega (arith, room g N pos whole 0 (omega arith))

  low_far : (B u x : ℕ) → u ≤ g → (x ≡ u) ⊎ (x ≡ 8380417 - u) → magnitude 8380417 x < g - B → u + B < g
  low_far B u x l (inl e) h = omega (arith, ap (magnitude 8380417) e, magnitude-small u (omega (arith, half)))
  low_far B u x l (inr e) h = omega (arith, ap (magnitude 8380417) e, magnitude_minus u (omega (arith, half)))

  -- adding at most B to a number whose low part is farther than B from both ends leaves the high part
  pub same_high : (r s B : ℕ) → r < 8380417 → s < 8380417 → magnitude 8380417 s ≤ B → magnitude 8380417 (low_bits g r) < g - B → high_bits g ((r + s) % 8380417) ≡ high_bits g r
  same_high r s B lr ls hs hl = go (view g N pos whole r lr) (near_cases s B ls hs)
    where
      on-up : (h u : ℕ) → h ≤ N → u ≤ g → r ≡ 2 * g * h + u → u + B < g → (s ≤ B) ⊎ ((b : ℕ) × (b + s ≡ 8380417) × (b ≤ B)) → high_bits g ((r + s) % 8380417) ≡ h
      on-up h u k l e f (inl c) = high_up g N pos whole ((r + s) % 8380417) h (u + s) k (omega arith) (omega (arith, room g N pos whole h k))
      on-up zero u k l e f (inr c) = elim (cases_lt u c.0) [ inl j ↦ high_wrap g N pos whole ((r + s) % 8380417) (c.0 - u) (omega arith) (omega arith) (omega (arith, half)) | inr j ↦ high_up g N pos whole ((r + s) % 8380417) 0 (u - c.0) k (omega arith) (omega (arith, half)) ]
      on-up (suc h) u k l e f (inr c) = elim (cases_lt u c.0) [ inl j ↦ high_down g N pos whole ((r + s) % 8380417) h (c.0 - u) k (omega arith) (omega arith) (omega (arith, room g N pos whole (suc h) k)) | inr j ↦ high_up g N pos whole ((r + s) % 8380417) (suc h) (u - c.0) k (omega arith) (omega (arith, room g N pos whole (suc h) k)) ]

      on-down : (h u : ℕ) → suc h ≤ N → 0 < u → u < g → r + u ≡ 2 * g * suc h → u + B < g → (s ≤ B) ⊎ ((b : ℕ) × (b + s ≡ 8380417) × (b ≤ B)) → high_bits g ((r + s) % 8380417) ≡ suc h
      on-down h u k p l e f (inl c) = elim (cases_lt s u) [ inl j ↦ high_down g N pos whole ((r + s) % 8380417) h (u - s) k (omega arith) (omega arith) (omega (arith, room g N pos whole (suc h) k)) | inr j ↦ high_up g N pos whole ((r + s) % 8380417) (suc h) (s - u) k (omega arith) (omega (arith, room g N pos whole (suc h) k)) ]
      on-down h u k p l e f (inr c) = high_down g N pos whole ((r + s) % 8380417) h (u + c.0) k (omega arith) (omega arith) (omega (arith, room g N pos whole (suc h) k))

      on-wrap : (u : ℕ) → 0 < u → u ≤ g → r + u ≡ 8380417 → u + B < g → (s ≤ B) ⊎ ((b : ℕ) × (b + s ≡ 8380417) × (b ≤ B)) → high_bits g ((r + s) % 8380417) ≡ 0
      on-wrap u p l e f (inl c) = elim (cases_lt s u) [ inl j ↦ high_wrap g N pos whole ((r + s) % 8380417) (u - s) (omega arith) (omega arith) (omega (arith, half)) | inr j ↦ high_up g N pos whole ((r + s) % 8380417) 0 (s - u) (omega arith) (omega arith) (omega (arith, half)) ]
      on-wrap u p l e f (inr c) = high_wrap g N pos whole ((r + s) % 8380417) (u + c.0) (omega arith) (omega arith) (omega (arith, half))

      go : View g N r → (s ≤ B) ⊎ ((b : ℕ) × (b + s ≡ 8380417) × (b ≤ B)) → high_bits g ((r + s) % 8380417) ≡ high_bits g r
      go (up h u k l e) c = on-up h u k l e (low_far B u (low_bits g r) l (inl (low_up g N pos whole r h u k l e)) hl) c ∙ sym (high_up g N pos whole r h u k l e)
      go (down h u k p l e) c = on-down h u k p l e (low_far B u (low_bits g r) (omega arith) (inr (low_down g N pos whole r h u k p l e)) hl) c ∙ sym (high_down g N pos whole r h u k p l e)
      go (wrap u p l e) c = on-wrap u p l e (low_far B u (low_bits g r) l (inr (low_wrap g N pos whole r u p l e)) hl) c ∙ sym (high_wrap g N pos whole r u p l e)

  -- ---- hints
  steps : 8380416 / (2 * g) ≡ suc N
  steps = ap (λ x. x / (2 * g)) {x = 8380416} {y = 2 * g * suc N} (omega arith) ∙ whole_by g N pos whole (suc N)

  module _ (r z : ℕ) where
    abbrev Gives : Type 0
    Gives = use_hint g (make_hint g z r) r ≡ high_bits g ((r + z) % 8380417)

    kept : high_bits g r ≡ high_bits g ((r + z) % 8380417) → Gives
    kept e = ap (λ b. use_hint g b r) (cond-true _ _ _ (eq-eqb (high_bits g r) (high_bits g ((r + z) % 8380417)) e)) ∙ e

    given : (high_bits g r ≡ high_bits g ((r + z) % 8380417) → ⊥) → use_hint g (make_hint g z r) r ≡ cond (low_is_positive g r) ((high_bits g r + 1) % suc N) ((high_bits g r + N) % suc N)
    given ne = ap (λ b. use_hint g b r) (cond-false _ _ _ (ne_eqb (high_bits g r) (high_bits g ((r + z) % 8380417)) ne)) ∙ ap (λ m. cond (low_is_positive g r) ((high_bits g r + 1) % m) ((high_bits g r + (m - 1)) % m)) steps ∙ ap (λ n. cond (low_is_positive g r) ((high_bits g r + 1) % suc N) ((high_bits g r + n) % suc N)) {x = suc N - 1} {y = N} (omega arith)

    raised : low_is_positive g r ≡ true → high_bits g ((r + z) % 8380417) ≡ (high_bits g r + 1) % suc N → Gives
    raised i e = elim (cases_eq (high_bits g r) (high_bits g ((r + z) % 8380417))) [ inl s ↦ kept s | inr ne ↦ given ne ∙ (cond-true _ _ _ i ∙ sym e) ]

    lowered : low_is_positive g r ≡ false → high_bits g ((r + z) % 8380417) ≡ (high_bits g r + N) % suc N → Gives
    lowered i e = elim (cases_eq (high_bits g r) (high_bits g ((r + z) % 8380417))) [ inl s ↦ kept s | inr ne ↦ given ne ∙ (cond-false _ _ _ i ∙ sym e) ]

  turn_over : (h : ℕ) → h ≡ N → (h + 1) % suc N ≡ 0
  turn_over h e = ap (λ x. x % suc N) {y = 1 * suc N + 0} (omega arith) ∙ mod-mul-add 1 (suc N) 0 (omega arith)

  turn_back : (h : ℕ) → h ≤ N → (suc h + N) % suc N ≡ h
  turn_back h l = ap (λ x. x % suc N) {y = 1 * suc N + h} (omega arith) ∙ mod-mul-add 1 (suc N) h (omega arith)

  is_up : (r u : ℕ) → low_bits g r ≡ u → 0 < u → u ≤ g → low_is_positive g r ≡ true
  is_up r u e p l = ap (λ x. ltb 0 x && leb (2 * x) 8380417) e ∙ and_from _ _ (lt-ltb 0 u p) (le-leb (2 * u) 8380417 (omega (arith, half)))

  not_up : (r u : ℕ) → low_bits g r ≡ 8380417 - u → u ≤ g → low_is_positive g r ≡ false
  not_up r u e l = ap (λ x. ltb 0 x && leb (2 * x) 8380417) e ∙ and_right (ltb 0 (8380417 - u)) _ (lt-leb (2 * (8380417 - u)) 8380417 (omega (arith, half)))

  -- a hint gives back the high part that was there after at most g was added
  pub used_hint : (r z : ℕ) → r < 8380417 → z < 8380417 → magnitude 8380417 z ≤ g → use_hint g (make_hint g z r) r ≡ high_bits g ((r + z) % 8380417)
  used_hint r z lr lz hz = go (view g N pos whole r lr) (near_cases z g lz hz)
    where
      next : ℕ
      next = (r + z) % 8380417

      on-up : (h u : ℕ) → h ≤ N → u ≤ g → r ≡ 2 * g * h + u → high_bits g r ≡ h → 0 < u → low_bits g r ≡ u → (z ≤ g) ⊎ ((b : ℕ) × (b + z ≡ 8380417) × (b ≤ g)) → Gives r z
      on-up h u k l e hr p lw (inl c) = elim (cases_lt g (u + z)) [ inr j ↦ kept r z (hr ∙ sym (high_up g N pos whole next h (u + z) k j (omega (arith, room g N pos whole h k)))) | inl j ↦ raised r z (is_up r u lw p l) (over (cases_lt h N) (cases_eq (u + z) (2 * g)) j) ]
        where
          over : (h < N) ⊎ (N ≤ h) → (u + z ≡ 2 * g) ⊎ (u + z ≡ 2 * g → ⊥) → g < u + z → high_bits g next ≡ (high_bits g r + 1) % suc N
          over (inl a) (inl b) j = high_up g N pos whole next (suc h) 0 a (omega arith) (omega (arith, room g N pos whole (suc h) a)) ∙ (sym (mod-eq_of_lt {n = suc h} (omega arith)) ∙ ap (λ x. x % suc N) {x = suc h} {y = high_bits g r + 1} (omega (arith, hr)))
          over (inl a) (inr b) j = high_down g N pos whole next h (2 * g - (u + z)) a (omega arith) (omega arith) (omega (arith, room g N pos whole (suc h) a)) ∙ (sym (mod-eq_of_lt {n = suc h} (omega arith)) ∙ ap (λ x. x % suc N) {x = suc h} {y = high_bits g r + 1} (omega (arith, hr)))
          over (inr a) b j = high_wrap g N pos whole next (2 * g - (u + z) + 1) (omega arith) (omega arith) (omega (arith, ap (λ x. 2 * g * x) top)) ∙ (sym (turn_over h top) ∙ ap (λ x. (x + 1) % suc N) (sym hr))
            where
              top : h ≡ N
              top = omega arith
      on-up zero u k l e hr p lw (inr c) = elim (cases_lt u c.0) [ inl j ↦ kept r z (hr ∙ sym (high_wrap g N pos whole next (c.0 - u) (omega arith) (omega arith) (omega (arith, half)))) | inr j ↦ kept r z (hr ∙ sym (high_up g N pos whole next 0 (u - c.0) k (omega arith) (omega (arith, half)))) ]
      on-up (suc h) u k l e hr p lw (inr c) = elim (cases_lt u c.0) [ inl j ↦ kept r z (hr ∙ sym (high_down g N pos whole next h (c.0 - u) k (omega arith) (omega arith) (omega (arith, room g N pos whole (suc h) k)))) | inr j ↦ kept r z (hr ∙ sym (high_up g N pos whole next (suc h) (u - c.0) k (omega arith) (omega (arith, room g N pos whole (suc h) k)))) ]

      -- a low part of 0
      on-flat : (h : ℕ) → h ≤ N → r ≡ 2 * g * h + 0 → high_bits g r ≡ h → low_bits g r ≡ 0 → (z ≤ g) ⊎ ((b : ℕ) × (b + z ≡ 8380417) × (b ≤ g)) → Gives r z
      on-flat h k e hr lw (inl c) = kept r z (hr ∙ sym (high_up g N pos whole next h z k c (omega (arith, room g N pos whole h k))))
      on-flat zero k e hr lw (inr c) = kept r z (hr ∙ sym (high_wrap g N pos whole next c.0 (omega arith) (omega arith) (omega (arith, half))))
      on-flat (suc h) k e hr lw (inr c) = elim (cases_lt c.0 g) [ inl j ↦ kept r z (hr ∙ sym (high_down g N pos whole next h c.0 k (omega arith) j (omega (arith, room g N pos whole (suc h) k)))) | inr j ↦ lowered r z (ap (λ x. ltb 0 x && leb (2 * x) 8380417) lw) (high_up g N pos whole next h g (omega arith) (omega arith) (omega (arith, room g N pos whole (suc h) k)) ∙ (sym (turn_back h (omega arith)) ∙ ap (λ x. (x + N) % suc N) (sym hr))) ]

      on-down : (h u : ℕ) → suc h ≤ N → 0 < u → u < g → r + u ≡ 2 * g * suc h → high_bits g r ≡ suc h → low_bits g r ≡ 8380417 - u → (z ≤ g) ⊎ ((b : ℕ) × (b + z ≡ 8380417) × (b ≤ g)) → Gives r z
      on-down h u k p l e hr lw (inl c) = elim (cases_lt z u) [ inl j ↦ kept r z (hr ∙ sym (high_down g N pos whole next h (u - z) k (omega arith) (omega arith) (omega (arith, room g N pos whole (suc h) k)))) | inr j ↦ kept r z (hr ∙ sym (high_up g N pos whole next (suc h) (z - u) k (omega arith) (omega (arith, room g N pos whole (suc h) k)))) ]
      on-down h u k p l e hr lw (inr c) = elim (cases_lt (u + c.0) g) [ inl j ↦ kept r z (hr ∙ sym (high_down g N pos whole next h (u + c.0) k (omega arith) j (omega (arith, room g N pos whole (suc h) k)))) | inr j ↦ lowered r z (not_up r u lw (omega arith)) (high_up g N pos whole next h (2 * g - (u + c.0)) (omega arith) (omega arith) (omega (arith, room g N pos whole (suc h) k)) ∙ (sym (turn_back h (omega arith)) ∙ ap (λ x. (x + N) % suc N) (sym hr))) ]

      on-wrap : (u : ℕ) → 0 < u → u ≤ g → r + u ≡ 8380417 → high_bits g r ≡ 0 → low_bits g r ≡ 8380417 - u → (z ≤ g) ⊎ ((b : ℕ) × (b + z ≡ 8380417) × (b ≤ g)) → Gives r z
      on-wrap u p l e hr lw (inl c) = elim (cases_lt z u) [ inl j ↦ kept r z (hr ∙ sym (high_wrap g N pos whole next (u - z) (omega arith) (omega arith) (omega (arith, half)))) | inr j ↦ kept r z (hr ∙ sym (high_up g N pos whole next 0 (z - u) (omega arith) (omega arith) (omega (arith, half)))) ]
      on-wrap u p l e hr lw (inr c) = elim (cases_lt g (u + c.0)) [ inr j ↦ kept r z (hr ∙ sym (high_wrap g N pos whole next (u + c.0) (omega arith) j (omega (arith, half)))) | inl j ↦ lowered r z (not_up r u lw l) (high_up g N pos whole next N (2 * g + 1 - (u + c.0)) (omega arith) (omega arith) (omega (arith, half)) ∙ (sym (mod-eq_of_lt {n = N} (omega arith)) ∙ ap (λ x. x % suc N) {x = N} {y = high_bits g r + N} (omega (arith, hr)))) ]

      go : View g N r → (z ≤ g) ⊎ ((b : ℕ) × (b + z ≡ 8380417) × (b ≤ g)) → Gives r z
      go (up h zero k l e) c = on-flat h k e (high_up g N pos whole r h 0 k l e) (low_up g N pos whole r h 0 k l e) c
      go (up h (suc u) k l e) c = on-up h (suc u) k l e (high_up g N pos whole r h (suc u) k l e) (omega arith) (low_up g N pos whole r h (suc u) k l e) c
      go (down h u k p l e) c = on-down h u k p l e (high_down g N pos whole r h u k p l e) (low_down g N pos whole r h u k p l e) c
      go (wrap u p l e) c = on-wrap u p l e (high_wrap g N pos whole r u p l e) (low_wrap g N pos whole r u p l e) c
