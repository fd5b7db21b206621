use Rattle.std.proofs.Common.{◌≡◌, false, IfOk}
use Rattle.files.specs.Texts.{text_of}
use Rattle.files.specs.Dsa.{good_or_bad, checked}
use Rattle.files.proofs.Told.{of_set}
use Rattle.files.proofs.dsa.verify.Goals as goal

pub returns-in-Ok : goal.returns-in-Ok
returns-in-Ok g c =
    let (named, there) = c.in-Ok.ensures in
    of_set (λ text. IfOk c.told.result (λ v. v.items ≡ text)) (λ n. checked g.H.Hash.hashes n (text_of c.args.pk) (text_of c.args.ctx) (text_of c.args.message) (text_of c.args.sig)) c.args.set.now (good_or_bad false)
    named there (c.told.ensures _ c.try_verify.ensures)
