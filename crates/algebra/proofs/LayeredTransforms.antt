-- The layers, with the tables of powers, are the transforms of the standards.
use Rattle.std.proofs.Common.{◌≡◌, ℕ, ◌+◌, ◌*◌, ◌/◌, ◌%◌, T, List, refl, ap, arith, lit<}
use Rattle.standards.specs.Lists.{at}
use Rattle.standards.specs.Bytes.{bit_rev}
use Rattle.standards.specs.Ring.{Poly}
use Rattle.standards.specs.MlKemParts.{ntt as kem_ntt, ntt_inv as kem_ntt_inv}
use Rattle.standards.specs.MlDsaParts.{ntt as dsa_ntt, ntt_inv as dsa_ntt_inv}
use Rattle.algebra.specs.Layers.{forward_layers, inverse_layers, zeta_table}
use Rattle.algebra.specs.Modular.{scaled}
use Rattle.algebra.proofs.Congruence.{◌▸◌, back_of, same_is, same_mod, same_scale}
use Rattle.algebra.proofs.Transform.{forward_is_residue, inverse_is_interpolant, inverses}
use Rattle.algebra.proofs.DsaTransform.{as_forward, as_inverse}
use Rattle.algebra.proofs.Tests.{all_to}
use Rattle.algebra.proofs.Tables.{is_remainders, table_same}
use Rattle.algebra.proofs.InverseLayers.{inverse_exponents, inverse_factors, backward_all}
use Rattle.algebra.proofs.Blocks.{forward_layers_poly}
use Rattle.algebra.proofs.ForwardLayers.{exponents, zeta_factors, forward_all}

kem_exponents : T (exponents 7)
unfolding exponents all_to bit_rev
kem_exponents = tt

dsa_exponents : T (exponents 8)
unfolding exponents all_to bit_rev
dsa_exponents = tt

pub kem_forward_layers : (f : List ℕ) → Poly 3329 f → kem_ntt f ≡ forward_layers 3329 (zeta_table 3329 17 7) 7 f
kem_forward_layers f b =
    let s = forward_layers_poly 3329 (lit< tt) (zeta_table 3329 17 7) 7 f b in
    is_remainders 3329 256 _ _ s.0 s.1
    (λ n h. forward_is_residue 3329 17 7 255 (record { is = refl }) refl 2 (at f) (n / 2) (n % 2) ▸
    back_of (forward_all 3329 17 7 (record { is = refl }) (lit< tt) 2 refl (zeta_table 3329 17 7) (zeta_factors 3329 17 7 kem_exponents) f 7 0 refl (n / 2) (n % 2) (omega arith) (omega arith)) ▸
    same_is (ap (at (forward_layers 3329 (zeta_table 3329 17 7) 7 f)) {x = n / 2 * 2 + n % 2} {y = n} (omega arith)))

pub dsa_forward_layers : (f : List ℕ) → Poly 8380417 f → dsa_ntt f ≡ forward_layers 8380417 (zeta_table 8380417 1753 8) 8 f
dsa_forward_layers f b =
    let s = forward_layers_poly 8380417 (lit< tt) (zeta_table 8380417 1753 8) 8 f b in
    is_remainders 8380417 256 _ _ s.0 s.1
    (λ n h. as_forward f n 0 (lit< tt) ▸ forward_is_residue 8380417 1753 8 511 (record { is = refl }) refl 1 (at f) n 0 ▸
    back_of (forward_all 8380417 1753 8 (record { is = refl }) (lit< tt) 1 refl (zeta_table 8380417 1753 8) (zeta_factors 8380417 1753 8 dsa_exponents) f 8 0 refl n 0 h (lit< tt)) ▸
    same_is (ap (at (forward_layers 8380417 (zeta_table 8380417 1753 8) 8 f)) {x = n * 1 + 0} {y = n} (omega arith)))

kem_inverse_exponents : T (inverse_exponents 7)
unfolding inverse_exponents all_to bit_rev
kem_inverse_exponents = tt

dsa_inverse_exponents : T (inverse_exponents 8)
unfolding inverse_exponents all_to bit_rev
dsa_inverse_exponents = tt

pub kem_inverse_layers : (f : List ℕ) → kem_ntt_inv f ≡ scaled 3329 3303 (inverse_layers 3329 (zeta_table 3329 17 7) 7 7 f)
kem_inverse_layers f =
    table_same 256 _ _
    (λ n h. (same_scale 3303 (same_mod ▸ inverse_is_interpolant 3329 17 7 255 (record { is = refl }) refl 2 (at f) (n / 2) (n % 2) ▸
    back_of (backward_all 3329 17 7 (record { is = refl }) (lit< tt) _ (inverses 3329 17 7 255 (record { is = refl }) refl) 2 refl (zeta_table 3329 17 7) (inverse_factors 3329 17 7 (record { is = refl }) kem_inverse_exponents) f 7 0 refl 0 (n / 2) (n % 2) (lit< tt) (omega arith) (omega arith)) ▸
    same_is (ap (at (inverse_layers 3329 (zeta_table 3329 17 7) 7 7 f)) {x = 0 * 256 + (2 * (n / 2) + n % 2)} {y = n} (omega arith)))).is)

pub dsa_inverse_layers : (f : List ℕ) → dsa_ntt_inv f ≡ scaled 8380417 8347681 (inverse_layers 8380417 (zeta_table 8380417 1753 8) 8 8 f)
dsa_inverse_layers f =
    table_same 256 _ _
    (λ n h. (as_inverse f n 0 (lit< tt) ▸ same_scale 8347681 (inverse_is_interpolant 8380417 1753 8 511 (record { is = refl }) refl 1 (at f) n 0 ▸
    back_of (backward_all 8380417 1753 8 (record { is = refl }) (lit< tt) _ (inverses 8380417 1753 8 511 (record { is = refl }) refl) 1 refl (zeta_table 8380417 1753 8) (inverse_factors 8380417 1753 8 (record { is = refl }) dsa_inverse_exponents) f 8 0 refl 0 n 0 (lit< tt) h (lit< tt)) ▸
    same_is (ap (at (inverse_layers 8380417 (zeta_table 8380417 1753 8) 8 8 f)) {x = 0 * 256 + (1 * n + 0)} {y = n} (omega arith)))).is)
