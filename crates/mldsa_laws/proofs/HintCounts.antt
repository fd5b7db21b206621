-- The counts of a signature's hint part, and what its check says of them.
use Rattle.std.proofs.Common.{◌≡◌, ℕ, zero, suc, ◌+◌, ◌-◌, ◌<◌, ◌≤◌, ◌&&◌, T, eqb, leb, List, sym, ap, ◌∙◌, subst, ⊎_elim, arith, leb→le}
use Rattle.std.proofs.lemmas.Bool.{ne_eqb, cond-false, cases_eq}
use Rattle.standards.specs.MlDsaParts.{DsaSet}
use Rattle.standards.specs.MlDsa.{hint_end, hint_begin, rising, hint_places, hints_rise}
use Rattle.algebra.proofs.Tests.{both}

pub begin_later : (p : DsaSet) (s : List ℕ) (i : ℕ) → 0 < i → hint_begin p s i ≡ hint_end p s (i - 1)
begin_later p s i h = cond-false (eqb i 0) 0 (hint_end p s (i - 1)) (ne_eqb i 0 (λ e. omega arith))

pub begin_next : (p : DsaSet) (s : List ℕ) (i : ℕ) → hint_begin p s (i + 1) ≡ hint_end p s i
begin_next p s i =
    let e : i + 1 - 1 ≡ i = omega arith in
    begin_later p s (i + 1) (omega arith) ∙ ap (hint_end p s) e

-- what the check says of row i
abbrev pub GoodRow : DsaSet → List ℕ → ℕ → Type 0
GoodRow p s i = (hint_begin p s i ≤ hint_end p s i) × (hint_end p s i ≤ p.omega) × T (rising (hint_places p s i))

pub good_at : (p : DsaSet) (s : List ℕ) (n : ℕ) → T (hints_rise p s n) → (i : ℕ) → i < n → GoodRow p s i
unfolding hints_rise
good_at p s zero h i l = absurd (omega arith)
good_at p s (suc n) h i l =
    let a = both (leb (hint_begin p s n) (hint_end p s n) && leb (hint_end p s n) p.omega && rising (hint_places p s n)) (hints_rise p s n) h in
    let b = both (leb (hint_begin p s n) (hint_end p s n) && leb (hint_end p s n) p.omega) (rising (hint_places p s n)) a.0 in
    let c = both (leb (hint_begin p s n) (hint_end p s n)) (leb (hint_end p s n) p.omega) b.0 in
    ⊎_elim
    (λ (e : i ≡ n). subst (GoodRow p s) (sym e) (leb→le (hint_begin p s n) (hint_end p s n) c.0, leb→le (hint_end p s n) p.omega c.1, b.1))
    (λ (ne : i ≡ n → ⊥). good_at p s n a.1 i (omega (arith, ne)))
    (cases_eq i n)
