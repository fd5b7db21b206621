use Rattle.std.proofs.Common.{◌≡◌, ℕ, ◌+◌, ◌*◌, ◌/◌, ◌%◌, Bool, ◌&&◌, List, take, drop, ap, ◌∙◌, ap₂, arith}
use Rattle.standards.specs.Lists.{tables, all_full, row_at}
use Rattle.standards.specs.Hashes.{Hashes}
use Rattle.standards.specs.MlDsaParts.{DsaSet, expand_a, expand_s}
use Rattle.algebra.proofs.Rows.{row_at_lem, tables-same}
use Rattle.sets.specs.Sets.{dsa_numbers}
use Rattle.mldsa_keys.specs.KeyRows.{rows_drawn, s1_row}
use Rattle.mldsa_keys.proofs.draw.Goals as goal

-- rows that are counted from 0
from_nought : (n : ℕ) (f : ℕ → List ℕ) → tables n (λ i. f (0 + i)) ≡ tables n f
from_nought n f = tables-same n _ f (λ i l. ap f {x = 0 + i} {y = i} (omega arith))

all_drawn : (h : Hashes) (p : DsaSet) (seeds : List ℕ) (matrix first second : Bool) →
    matrix ≡ all_full (tables (p.k * p.l) (λ n. expand_a h (take 32 seeds) (n / p.l) (n % p.l))) →
    first ≡ all_full (tables p.l (λ i. expand_s h p.eta (take 64 (drop 32 seeds)) (0 + i))) →
    second ≡ all_full (tables p.k (λ i. expand_s h p.eta (take 64 (drop 32 seeds)) (p.l + i))) → (matrix && first && second) ≡ rows_drawn h p seeds
all_drawn h p seeds matrix first second a f s =
    ap₂ ◌&&◌ (ap₂ ◌&&◌ a (f ∙ ap all_full (from_nought p.l (expand_s h p.eta (take 64 (drop 32 seeds)))))) s

pub returns-clause-drawn : goal.returns-clause-drawn
returns-clause-drawn g c =
    all_drawn g.H.Hash.hashes (dsa_numbers c.args.p) c.args.seeds.now c.expand_a-matrix.result c.expand_s-first.result c.expand_s-second.result
    c.expand_a-matrix.ensures.drawn (rw c.requires.rows.0 at c.expand_s-first.ensures.drawn) (rw c.requires.rows.1 at c.expand_s-second.ensures.drawn)

pub returns-clause-s1 : goal.returns-clause-s1
returns-clause-s1 g c j h =
    let f : ℕ → List ℕ = s1_row g.H.Hash.hashes (dsa_numbers c.args.p) c.args.seeds.now in
    ap (λ v. row_at v j) ((rw c.requires.rows.0 at c.expand_s-first.ensures.value) ∙ from_nought c.args.p.l f) ∙ row_at_lem c.args.p.l f j h

pub returns-clause-s2 : goal.returns-clause-s2
returns-clause-s2 g c j h = ap (λ v. row_at v j) (rw c.requires.rows.1 at c.expand_s-second.ensures.value) ∙ row_at_lem c.args.p.k _ j h
