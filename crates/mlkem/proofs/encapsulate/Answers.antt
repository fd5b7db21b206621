use Rattle.std.proofs.Common.{ℕ, cond, List, drop, ap, ◌∙◌, ap₂, arith}
use Rattle.standards.specs.MlKemParts.{KemSet}
use Rattle.standards.specs.MlKem.{matrix_drawn, ek_rho, encrypt, encaps_text}
use Rattle.sets.specs.Sets.{kem_numbers}
use Rattle.mlkem.proofs.Halves.{second_half}
use Rattle.mlkem.proofs.Verdicts.{encaps_goes, passed, key_passed, drawn}
use Rattle.mlkem.proofs.encapsulate.Goals as goal

pub returns-clause-verdict : goal.returns-clause-verdict
returns-clause-verdict g c =
    let p = c.in_ok-p.ensures in
    let ek = c.in_ok-ek.ensures in
    encaps_goes g.H.Hash.hashes c.args.set c.args.ek.now _ _ p.set (passed _ p.verdict) (c.if-text-text_length.false ∙ c.text_length.ensures.value) (key_passed _ ek.verdict)
    (drawn _ (c.in_ok-expand.ensures.drawn ∙ ap₂ (λ (u : KemSet) (x : List ℕ). cond (matrix_drawn g.H.Hash.hashes u (ek_rho u x)) 0 4) (ap kem_numbers ek.set) ek.bytes))

pub returns-clause-text : goal.returns-clause-text
returns-clause-text g c =
    let h = g.H.Hash.hashes in
    let m = c.args.m.now in
    c.encrypt.ensures ∙
    (ap (encrypt h _ _ m) (second_half c.key_and_coins-g.result (omega arith) ∙ ap (drop 32) c.key_and_coins-g.ensures) ∙
    ap₂ (λ (u : KemSet) (x : List ℕ). encaps_text h u x m) c.in_ok-p.ensures.set c.in_ok-ek.ensures.bytes)
