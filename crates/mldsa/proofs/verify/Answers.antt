use Rattle.std.proofs.Common.{◌≡◌, ◌&&◌, true, sym, ap, ◌∙◌, rules}
use Rattle.standards.specs.MlDsaParts.{DsaSet}
use Rattle.standards.specs.MlDsa.{verify}
use Rattle.standards.specs.Calls.{dsa_of, is_set}
use Rattle.mldsa.proofs.verify.Goals as goal

pub returns : goal.returns
returns g c =
    let p = c.in-Ok.ensures in
    let there : is_set c.args.set ≡ true = search (rules, p.verdict) in
    let check = λ (u : DsaSet). verify g.H.Hash.hashes u c.args.pk.now c.args.ctx.now c.args.message.now c.args.sig.now in
    c.verify.ensures ∙ (ap check p.set ∙ ap (λ b. b && check (dsa_of c.args.set)) (sym there))
