use Rattle.std.proofs.Common.{rules, ◌≡◌, if◌then◌else◌, ◌==◌, length, ap, ◌∙◌}
use Rattle.standards.specs.MlKem.{encaps_text, text_length}
use Rattle.standards.specs.Calls.{kem_of, kem_keys_verdict}
use Rattle.sets.specs.Sets.{number_of}
use Rattle.suite.specs.Verdicts.{first_refusal}
use Rattle.suite.proofs.Verdicts.{array_bytes, if_ok}
use Rattle.suite.proofs.Exchanging.{encaps_answers, decaps_answers, both_have}
use Rattle.suite.proofs.corollaries.exchange.Goals as goal

pub returns-in_err-encapsulate-clause-verdict : goal.returns-in_err-encapsulate-clause-verdict
returns-in_err-encapsulate-clause-verdict g c =
    let a = c.args in
    let h = g.E.Exchange.hashes in
    let keys = c.in_ok-keys.ensures in
    let answer : number_of c.in_err-encapsulate.field-0.0 ≡ first_refusal (kem_keys_verdict h a.set a.d.now (length a.ek.now) (length a.dk.now)) (if length a.text.now == text_length (kem_of a.set) then 0 else 2) =
    encaps_answers h g.met.E.Exchange.fair a.set a.d.now a.z.now a.m.now
    (array_bytes 32 a.d.now c.told-d c.fits-d) (array_bytes 32 a.z.now c.told-z c.fits-z) (array_bytes 32 a.m.now c.told-m c.fits-m)
    (length a.ek.now) (length a.dk.now) keys.verdict c.keys.new.ek (length a.text.now) _ keys.public c.in_err-encapsulate.ensures.verdict in
    search rules

pub returns-clause-verdict : goal.returns-clause-verdict
returns-clause-verdict g c =
    let a = c.args in
    let h = g.E.Exchange.hashes in
    let fair = g.met.E.Exchange.fair in
    let d = array_bytes 32 a.d.now c.told-d c.fits-d in
    let z = array_bytes 32 a.z.now c.told-z c.fits-z in
    let m = array_bytes 32 a.m.now c.told-m c.fits-m in
    let keys = c.in_ok-keys.ensures in
    let made = c.in_ok-encapsulate.ensures in
    c.decapsulate.ensures.verdict ∙
    (decaps_answers h fair a.set a.d.now a.z.now a.m.now d z m _ _ keys.verdict c.keys.new.dk c.encapsulate.new.text keys.secret (made.text ∙ ap (λ x. encaps_text h (kem_of a.set) x a.m.now) keys.public) ∙
    encaps_answers h fair a.set a.d.now a.z.now a.m.now d z m _ _ keys.verdict c.keys.new.ek (length a.text.now) 0 keys.public made.verdict)

pub returns-clause-agree : goal.returns-clause-agree
returns-clause-agree g c =
    let a = c.args in
    let keys = c.in_ok-keys.ensures in
    let made = c.in_ok-encapsulate.ensures in
    if_ok c.decapsulate.result
    (both_have g.E.Exchange.hashes g.met.E.Exchange.fair a.set a.d.now a.z.now a.m.now
    (array_bytes 32 a.d.now c.told-d c.fits-d) (array_bytes 32 a.z.now c.told-z c.fits-z) (array_bytes 32 a.m.now c.told-m c.fits-m)
    _ _ keys.verdict c.keys.new.ek c.keys.new.dk c.encapsulate.new.text c.encapsulate.new.key c.decapsulate.new.key _ _ keys.public keys.secret made.key made.text
    c.decapsulate.ensures.verdict c.decapsulate.ensures.key)
