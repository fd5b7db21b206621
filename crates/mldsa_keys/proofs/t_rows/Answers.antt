use Rattle.std.proofs.Common.{length, sym}
use Rattle.mldsa_keys.proofs.ProductRows.{product_rows}
use Rattle.mldsa_keys.proofs.t_rows.Goals as goal

pub returns-clause-value : goal.returns-clause-value
returns-clause-value c =
    product_rows (length c.args.t.now) c.args.a.now c.args.s1.now c.args.s2.now c.copy_from_slice.new.self c.ntt_rows.new.v c.matrix_product.new.w c.add_rows.new.t (sym c.requires.rows)
    c.copy_from_slice.ensures.after c.ntt_rows.ensures.value c.matrix_product.ensures.value c.add_rows.ensures.value
