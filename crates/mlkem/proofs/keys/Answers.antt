use Rattle.std.proofs.Common.{◌∙◌}
use Rattle.mlkem.proofs.Verdicts.{keys_go, passed}
use Rattle.mlkem.proofs.keys.Goals as goal

pub returns-clause-verdict : goal.returns-clause-verdict
returns-clause-verdict g c =
    let p = c.in_ok-p.ensures in
    keys_go g.H.Hash.hashes c.args.set c.args.d.now _ _ _ _ p.set (passed _ p.verdict) (c.if-ek-ek_length.false ∙ c.ek_length.ensures.value) (c.if-dk-dk_length.false ∙ c.dk_length.ensures.value) c.key_gen.ensures.drawn
