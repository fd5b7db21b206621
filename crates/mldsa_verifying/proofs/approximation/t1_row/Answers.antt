use Rattle.std.proofs.Common.{◌+◌, ◌*◌, ◌%◌, T, sym, ap, ◌∙◌, subst}
use Rattle.standards.specs.Lists.{table, at, all_below}
use Rattle.standards.specs.Bytes.{unpack}
use Rattle.standards.specs.MlDsaParts.{ntt}
use Rattle.algebra.proofs.Packing.{below_unpack}
use Rattle.algebra.proofs.Parts.{part_is}
use Rattle.mldsa_verifying.proofs.approximation.t1_row.Goals as goal

pub scale_t1-requires : goal.scale_t1-requires
scale_t1-requires c = subst (λ x. T (all_below 1024 x)) (sym c.unpack.ensures) (below_unpack 10 256 _)

pub returns-clause-value : goal.returns-clause-value
returns-clause-value c =
    c.ntt.ensures.value ∙ ap ntt (c.scale_t1.ensures.value ∙ ap (λ x. table 256 (λ n. (8192 * at x n) % 8380417))
    (c.unpack.ensures ∙ ap (unpack 10 256) (part_is c.args.pk.now (32 + 320 * c.args.i) 320)))
