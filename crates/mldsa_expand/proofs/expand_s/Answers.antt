use Rattle.std.proofs.Common.{◌≡◌, ℕ, ◌+◌, ◌/◌, ◌%◌, ◌&&◌, eqb, List, [], ◌∷◌, ◌++◌, length, sym, ap, ◌∙◌, ap₂, arith}
use Rattle.standards.specs.MlDsaParts.{expand_s, rej_bounded_poly}
use Rattle.algebra.proofs.RowArrays.{full_none, full_more}
use Rattle.mldsa_laws.specs.Steps.{padded}
use Rattle.mldsa_laws.proofs.RowLoops.{rows_start, rows_next}
use Rattle.mldsa_expand.proofs.expand_s.Goals as goal

pub loop-i-init : goal.loop-i-init
loop-i-init g c = (rows_start 8380417 _ c.args.s.now, sym (full_none _))

pub loop-i-preserved : goal.loop-i-preserved
loop-i-preserved g c =
    let h = g.H.Hash.hashes in
    let n = c.args.first + c.loop-i.i in
    let f : ℕ → List ℕ = λ i. expand_s h c.args.eta c.args.rho.now (c.args.first + i) in
    let bytes : c.to_le_bytes.result ≡ n % 256 ∷ n / 256 ∷ [] =
    c.to_le_bytes.ensures ∙ ap (λ y. n % 256 ∷ y ∷ []) {x = n / 256 % 256} {y = n / 256} (omega arith) in
    let is : rej_bounded_poly h c.args.eta (c.args.rho.now ++ c.to_le_bytes.result) ≡ f c.loop-i.i = ap (λ b. rej_bounded_poly h c.args.eta (c.args.rho.now ++ b)) bytes in (
      rows_next 8380417 _ c.args.s.now c.loop-i.i c.loop-i.s _ (omega arith) (c.rej_bounded_poly-full.ensures.row ∙ ap padded is) c.rej_bounded_poly-full.ensures.below c.loop-i.invariant.0,
      ap₂ ◌&&◌ c.loop-i.invariant.1 (c.rej_bounded_poly-full.ensures.full ∙ ap (λ x. eqb (length x) 256) is) ∙ sym (full_more c.loop-i.i f),
    )
