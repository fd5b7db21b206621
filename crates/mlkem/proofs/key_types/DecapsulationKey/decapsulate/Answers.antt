use Rattle.std.proofs.Common.{cond, eqb, ap, ◌∙◌, arith}
use Rattle.sets.specs.Sets.{kem_numbers}
use Rattle.mlkem.proofs.Halves.{second_half}
use Rattle.mlkem.proofs.Opening.{decaps_is}
use Rattle.mlkem.proofs.key_types.DecapsulationKey.decapsulate.Goals as goal

pub returns : goal.returns
returns g c =
    decaps_is g.H.Hash.hashes (kem_numbers c.args.self.now.set) c.args.self.now.bytes.now c.args.c.now _ _ _ _ c.sha3_512-g.result _ c.encrypt.new.text c.shake256_into.new.out _ c.differ.result
    c.decrypt.ensures c.hash.ensures.value c.encapsulation_key-ek.ensures.bytes c.z.ensures c.sha3_512-g.ensures (second_half c.sha3_512-g.result (omega arith)) c.encrypt.ensures c.shake256_into.ensures c.differ.ensures
    (c.choose.ensures ∙ ap (λ x. cond (eqb c.differ.result 0) x c.shake256_into.new.out) c.copy_from_slice.ensures.after)
