use Rattle.std.proofs.Common.{refl, ◌∙◌}
use Rattle.files.specs.Texts.{text_of}
use Rattle.files.specs.Kem.{call_decaps}
use Rattle.files.proofs.Told.{passes}
use Rattle.files.proofs.kem.try_decaps.Goals as goal

pub returns : goal.returns
returns g c =
    let s = c.in_ok-n.ensures in
    let f = c.in_ok-dk.ensures in
    passes c.call_decaps.result (call_decaps g.H.Hash.hashes) c.args.set.now (text_of c.args.dk) (text_of c.args.c)
    c.call_decaps.ensures s.0 s.1 f.0 refl (c.as_slice.ensures.value ∙ f.1) (c.as_slice-2.ensures.value ∙ f.2)
