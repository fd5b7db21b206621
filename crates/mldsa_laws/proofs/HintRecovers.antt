-- One number of a row: what checking takes the high part of, by the hint, has the high part that signing had.
use Rattle.std.proofs.Common.{◌≡◌, ℕ, suc, ◌+◌, ◌-◌, ◌*◌, ◌%◌, ◌<◌, ◌≤◌, sym, ap, ◌∙◌, inl, inr, mod-lt, arith, lit<}
use Rattle.std.proofs.lemmas.Bool.{cases_eq}
use Rattle.standards.specs.Ring.{magnitude}
use Rattle.standards.specs.MlDsaParts.{high_bits, low_bits, make_hint, use_hint}
use Rattle.algebra.proofs.Congruence.{Same}
use Rattle.algebra.proofs.Norms.{magnitude_cases}
use Rattle.mldsa_laws.proofs.RoundingLemmas.{same_high, used_hint, magnitude-small, magnitude_minus}

pub magnitude_opposite : (x : ℕ) → x < 8380417 → magnitude 8380417 ((0 + (8380417 - x % 8380417)) % 8380417) ≡ magnitude 8380417 x
magnitude_opposite x l = elim (cases_eq x 0) [
  | inl e ↦ ap (λ y. magnitude 8380417 ((0 + (8380417 - y % 8380417)) % 8380417)) e ∙ ap (magnitude 8380417) (sym e)
  | inr n ↦ ap (magnitude 8380417) {x = (0 + (8380417 - x % 8380417)) % 8380417} {y = 8380417 - x} (omega arith) ∙ elim (magnitude_cases 8380417 x) [ inl a ↦ magnitude_minus x a.0 ∙ sym a.1 | inr a ↦ magnitude-small (8380417 - x) (omega arith) ∙ sym a.1 ]
]

-- w as signed, w' as checked, cs of s2 and ct of t0
back_to_w : (w cs : ℕ) → w < 8380417 → cs < 8380417 → ((w + (8380417 - cs % 8380417)) % 8380417 + cs) % 8380417 ≡ w
back_to_w w cs lw lc = omega arith

back_to_v : (v ct : ℕ) → v < 8380417 → ct < 8380417 → ((v + ct) % 8380417 + (0 + (8380417 - ct % 8380417)) % 8380417) % 8380417 ≡ v
back_to_v v ct lv lc = omega arith

checked_number : (w w' cs ct : ℕ) → w < 8380417 → w' < 8380417 → cs < 8380417 → ct < 8380417 → Same 8380417 (w' + cs) (w + ct) → w' ≡ ((w + (8380417 - cs % 8380417)) % 8380417 + ct) % 8380417
checked_number w w' cs ct lw lw' ls lt e = omega (arith, e.is)

module _ (g N : ℕ) (pos : 0 < g) (whole : 2 * g * suc N + 1 ≡ 8380417) (B : ℕ) where
  pub heart : (w w' cs ct : ℕ) → w < 8380417 → w' < 8380417 → cs < 8380417 → ct < 8380417 → Same 8380417 (w' + cs) (w + ct) → magnitude 8380417 cs ≤ B →
      magnitude 8380417 (low_bits g ((w + (8380417 - cs % 8380417)) % 8380417)) < g - B → magnitude 8380417 ct < g →
      use_hint g (make_hint g ((0 + (8380417 - ct % 8380417)) % 8380417) (((w + (8380417 - cs % 8380417)) % 8380417 + ct) % 8380417)) w' ≡ high_bits g w
  heart w w' cs ct lw lw' ls lt e hs hl ht =
      ap (use_hint g (make_hint g z r)) (checked_number w w' cs ct lw lw' ls lt e) ∙
      (used_hint g N pos whole r z (mod-lt _ (lit< tt)) (mod-lt _ (lit< tt)) (omega (arith, magnitude_opposite ct lt)) ∙
      (ap (high_bits g) (back_to_v v ct (mod-lt _ (lit< tt)) lt) ∙ (sym (same_high g N pos whole v cs B (mod-lt _ (lit< tt)) ls hs hl) ∙ ap (high_bits g) (back_to_w w cs lw ls))))
    where
      v : ℕ
      v = (w + (8380417 - cs % 8380417)) % 8380417

      r : ℕ
      r = (v + ct) % 8380417

      z : ℕ
      z = (0 + (8380417 - ct % 8380417)) % 8380417
