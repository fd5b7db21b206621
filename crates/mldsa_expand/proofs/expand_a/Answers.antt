use Rattle.std.proofs.Common.{ℕ, ◌/◌, ◌%◌, ◌&&◌, List, sym, ◌∙◌, ap₂, arith}
use Rattle.standards.specs.MlDsaParts.{expand_a}
use Rattle.algebra.proofs.RowArrays.{full_none, full_more}
use Rattle.mldsa_laws.proofs.RowLoops.{rows_start, rows_next}
use Rattle.mldsa_expand.proofs.expand_a.Goals as goal

pub loop-n-init : goal.loop-n-init
loop-n-init g c = (rows_start 8380417 _ c.args.a.now, sym (full_none _))

pub loop-n-preserved : goal.loop-n-preserved
loop-n-preserved g c =
    let f : ℕ → List ℕ = λ n. expand_a g.H.Hash.hashes c.args.rho.now (n / c.args.p.l) (n % c.args.p.l) in (
      rows_next 8380417 _ c.args.a.now c.loop-n.n c.loop-n.a _ (omega arith) c.rej_ntt_poly-full.ensures.row c.rej_ntt_poly-full.ensures.below c.loop-n.invariant.0,
      ap₂ ◌&&◌ c.loop-n.invariant.1 c.rej_ntt_poly-full.ensures.full ∙ sym (full_more c.loop-n.n f),
    )
