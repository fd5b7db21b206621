use Rattle.suite.proofs.Verdicts.{slice_below, array_bytes}
use Rattle.suite.proofs.Signatures.{passes}
use Rattle.suite.proofs.corollaries.sign_and_verify.Goals as goal

pub returns-clause-passes : goal.returns-clause-passes
returns-clause-passes g c =
    let a = c.args in
    let keys = c.in_ok-keys.ensures in
    let made = c.in_ok-sign.ensures in
    passes g.S.Signing.hashes g.met.S.Signing.fair a.set a.xi.now a.ctx.now a.message.now a.coin.now
    (array_bytes 32 a.xi.now c.told-xi c.fits-xi) (slice_below a.ctx.now c.type_inv.ctx) (slice_below a.message.now c.type_inv.message) (array_bytes 32 a.coin.now c.told-coin c.fits-coin)
    c.keys.new.pk c.keys.new.sk c.sign.new.sig _ c.verify.result keys.public keys.secret made.verdict made.bytes c.verify.ensures
