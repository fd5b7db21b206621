use Rattle.std.proofs.Common.{◌+◌, ◌*◌, refl, arith}
use Rattle.sets.specs.Sets.{dsa_numbers}
use Rattle.standards.specs.MlDsaParts.{eta_bits}
use Rattle.mldsa_signing.proofs.SecretRows.{rows_from}
use Rattle.mldsa_signing.proofs.key.OpenedKey.open.Goals as goal

pub invariant_of-result-clause-s1_is : goal.invariant_of-result-clause-s1_is
invariant_of-result-clause-s1_is c =
    let d = eta_bits (dsa_numbers c.args.set) in
    rows_from c.args.bytes.now 128 (λ i. 128 + 32 * d * i) _ d _ _ (λ i. refl)
    (rw (c.requires.s1, c.of_s-interval.ensures.width, c.of_s-interval.ensures.top) at c.unpack_transformed.ensures.value) (rw c.requires.s1 at c.unpack_transformed.ensures.below)

pub invariant_of-result-clause-s2_is : goal.invariant_of-result-clause-s2_is
invariant_of-result-clause-s2_is c =
    let d = eta_bits (dsa_numbers c.args.set) in
    let l = c.args.set.l in
    rows_from c.args.bytes.now (128 + 32 * d * l) (λ i. 128 + 32 * d * (l + i)) _ d _ _ (λ i. omega arith)
    (rw (c.requires.s2, c.of_s-interval.ensures.width, c.of_s-interval.ensures.top) at c.unpack_transformed-2.ensures.value) (rw c.requires.s2 at c.unpack_transformed-2.ensures.below)

pub invariant_of-result-clause-t0_is : goal.invariant_of-result-clause-t0_is
invariant_of-result-clause-t0_is c =
    let p = dsa_numbers c.args.set in
    let a = 128 + 32 * eta_bits p * (p.l + p.k) in
    rows_from c.args.bytes.now a (λ i. a + 416 * i) _ 13 _ _ (λ i. refl)
    (rw (c.requires.t0, c.of_s-interval.ensures.width, c.of_t0.ensures.width, c.of_t0.ensures.top) at c.unpack_transformed-3.ensures.value) (rw c.requires.t0 at c.unpack_transformed-3.ensures.below)
