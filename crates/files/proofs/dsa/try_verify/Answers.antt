use Rattle.std.proofs.Common.{◌∙◌}
use Rattle.standards.specs.Calls.{accepts}
use Rattle.files.specs.Texts.{text_of}
use Rattle.files.proofs.Told.{checks}
use Rattle.files.proofs.dsa.try_verify.Goals as goal

pub returns : goal.returns
returns g c =
    let first = c.in_ok-key.ensures in
    let second = c.in_ok-text.ensures in
    checks (accepts g.H.Hash.hashes c.args.set) (text_of c.args.pk) (text_of c.args.ctx) (text_of c.args.message) (text_of c.args.sig)
    c.in_ok-good_or_bad.ensures c.verify-good.ensures first.0 second.0 c.in_ok-fits.ensures c.in_ok-fits-2.ensures c.in_ok-fits-3.ensures c.in_ok-fits-4.ensures
    (c.as_slice.ensures.value ∙ first.1) (c.as_slice-2.ensures.value ∙ first.2) (c.as_slice-3.ensures.value ∙ second.1) (c.as_slice-4.ensures.value ∙ second.2)
