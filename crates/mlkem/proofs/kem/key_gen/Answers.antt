use Rattle.std.proofs.Common.{◌≡◌, ℕ, ◌<◌, cond, List, length, ap, ◌∙◌, arith}
use Rattle.standards.specs.MlKem.{matrix_drawn}
use Rattle.sets.specs.Sets.{kem_numbers}
use Rattle.mlkem.proofs.KeyRows.{ek_is, dk_is}
use Rattle.mlkem.proofs.kem.key_gen.Goals as goal

pub returns : goal.returns
returns g c =
    let h = g.H.Hash.hashes in
    let p = kem_numbers c.args.p in
    let s = c.key_seeds.ensures in
    let ra = c.in_ok-expand.ensures in
    let ns : length c.small_rows.new.v ≡ p.k = omega arith in
    let nt : length c.t_rows.new.t ≡ p.k = omega arith in
    let rs = λ (j : ℕ) (l : j < p.k). c.small_rows.ensures.value j (omega arith) in
    let ek = ek_is h p _ _ _ _ _ _ s.rho s.sigma ra.value rs c.t_rows.ensures _ (rw nt at c.write_ek.ensures) in
    let dk = dk_is h p _ _ _ _ _ _ s.rho s.sigma ra.value rs c.t_rows.ensures _ _ _ ek (rw ns at c.write_dk.ensures) in
    record { drawn = ra.drawn ∙ ap (λ (x : List ℕ). cond (matrix_drawn h p x) 0 4) s.rho; public = ek; secret = dk }
