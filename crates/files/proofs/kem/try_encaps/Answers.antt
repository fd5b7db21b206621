use Rattle.std.proofs.Common.{eqb, length, sym, ap, ◌∙◌}
use Rattle.files.specs.Texts.{text_of}
use Rattle.files.specs.Kem.{call_encaps}
use Rattle.files.proofs.Told.{passes}
use Rattle.files.proofs.kem.try_encaps.Goals as goal

pub returns : goal.returns
returns g c =
    let s = c.in_ok-n.ensures in
    let f = c.in_ok-ek.ensures in
    let m = c.in_ok-m.ensures in
    let y = c.as_slice.ensures.value ∙ f.2 in
    passes c.call_encaps.result (call_encaps g.H.Hash.hashes) c.args.set.now (text_of c.args.ek) (text_of c.args.m)
    c.call_encaps.ensures s.0 s.1 f.0 (ap (λ n. eqb n 32) (ap length (sym y) ∙ m.1)) (c.as_slice-2.ensures.value ∙ f.1) (m.0 ∙ y)
