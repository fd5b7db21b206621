use Rattle.std.proofs.Common.{take, drop, ◌∙◌, ap₂, append-nil, arith, length-drop}
use Rattle.std.proofs.lemmas.List.{take_all}
use Rattle.standards.specs.Hashes.{shake256_bytes}
use Rattle.algebra.proofs.Parts.{put_three}
use Rattle.mldsa_keys.proofs.write_head.Goals as goal

pub returns : goal.returns
returns g c =
    let h = g.H.Hash.hashes in
    let seeds = c.args.seeds.now in
    let pk = c.args.pk.now in
    put_three 32 64 32 32 _ 128 c.args.out.now c.copy_from_slice.new.self c.copy_from_slice-2.new.self c.shake256_into.new.out (take 32 seeds) (drop 96 seeds) (shake256_bytes h pk 64)
    (omega arith) (omega arith) (omega arith) (omega arith) (omega arith) (omega arith)
    c.copy_from_slice.ensures.after (c.copy_from_slice-2.ensures.after ∙ take_all 32 (drop 96 seeds) (simp length-drop (omega arith)))
    (c.shake256_into.ensures ∙ ap₂ (shake256_bytes h) (append-nil pk) (omega arith))
