use Rattle.std.proofs.Common.{◌++◌, length, take, drop, ap, ◌∙◌, append_assoc, arith}
use Rattle.standards.specs.Hashes.{shake256_bytes}
use Rattle.algebra.proofs.Parts.{put_two}
use Rattle.mldsa_keys.proofs.write_sk.Goals as goal

pub returns : goal.returns
returns g c =
    let rho = take 32 c.args.seeds.now in
    let k = drop 96 c.args.seeds.now in
    put_two 128 128 _ (length c.args.sk.now) c.args.sk.now c.write_head.new.out c.write_rows.new.out _ _ (omega arith) (omega arith) (omega arith) (omega arith)
    c.write_head.ensures c.write_rows.ensures ∙ (append_assoc rho (k ++ shake256_bytes g.H.Hash.hashes c.args.pk.now 64) _ ∙ ap (λ x. rho ++ x) (append_assoc k (shake256_bytes g.H.Hash.hashes c.args.pk.now 64) _))
