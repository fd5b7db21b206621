use Rattle.std.proofs.Common.{ap, ◌∙◌, ap₂}
use Rattle.standards.specs.Ring.{add_p}
use Rattle.standards.specs.MlKemParts.{ntt_inv, compress_p}
use Rattle.kpke.proofs.cipher.v_poly.Goals as goal

pub returns : goal.returns
returns g c =
    c.compress.ensures.value ∙ ap (compress_p c.args.p.dv.bits) (c.add-2.ensures.value ∙ ap₂ (add_p 3329)
    (c.add.ensures.value ∙ ap₂ (add_p 3329) (c.ntt_inverse.ensures.value ∙ ap ntt_inv (rw c.requires.rows.1 at c.dot.ensures.value)) c.small_poly.ensures.value) c.mu.ensures.value)
