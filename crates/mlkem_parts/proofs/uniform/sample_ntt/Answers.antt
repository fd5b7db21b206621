use Rattle.std.proofs.Common.{◌≡◌, ◌++◌, length, sym, ap, ◌∙◌, rules}
use Rattle.standards.specs.MlKemParts.{sample_ntt}
use Rattle.mlkem_parts.proofs.uniform.sample_ntt.Goals as goal

pub returns-clause-drawn : goal.returns-clause-drawn
returns-clause-drawn g c =
    let drawn : c.draw.new.row ≡ sample_ntt g.H.Hash.hashes (c.args.rho.now ++ c.args.entry.now) = search rules in
    (ap length (sym drawn) ∙ c.in_ok-draw.ensures.full, c.copy_from_slice.ensures.after ∙ (c.as_slice.ensures ∙ drawn))
