use Rattle.std.proofs.Common.{◌≡◌, ℕ, cond, List, ap, ◌∙◌, ap₂, rules}
use Rattle.standards.specs.MlKemParts.{KemSet}
use Rattle.standards.specs.MlKem.{decaps, matrix_drawn, dk_ek, ek_rho}
use Rattle.sets.specs.Sets.{kem_numbers, number_of, verdict_of}
use Rattle.mlkem.proofs.Verdicts.{decaps_goes, decaps_stops, passed, drawn}
use Rattle.mlkem.proofs.decapsulate.Goals as goal

pub returns-clause-verdict : goal.returns-clause-verdict
returns-clause-verdict g c =
    let p = c.in_ok-p.ensures in
    let dk = c.in_ok-dk.ensures in
    let ek = c.encapsulation_key.ensures in
    let verdict = λ (u : KemSet) (x : List ℕ). cond (matrix_drawn g.H.Hash.hashes u (ek_rho u x)) 0 4 in
    decaps_goes g.H.Hash.hashes c.args.set c.args.dk.now c.args.c.now _ p.set (passed _ p.verdict) (c.if-c-text_length.false ∙ c.text_length.ensures.value) dk.verdict
    (drawn _ (c.in_ok-expand.ensures.drawn ∙ (ap₂ verdict (ap kem_numbers ek.set) ek.bytes ∙ ap₂ (λ u x. verdict u (dk_ek u x)) (ap kem_numbers dk.set) dk.bytes)))

-- the key fails its check
pub returns-in_err-dk-clause-verdict : goal.returns-in_err-dk-clause-verdict
returns-in_err-dk-clause-verdict g c =
    let p = c.in_ok-p.ensures in
    let passed_on : verdict_of c.from_residual-in_err-dk.result ≡ number_of c.in_err-dk.field-0.0 = search rules in
    passed_on ∙ decaps_stops g.H.Hash.hashes c.args.set c.args.dk.now c.args.c.now _ _ p.set (passed _ p.verdict) (c.if-c-text_length.false ∙ c.text_length.ensures.value) c.in_err-dk.ensures.verdict

pub returns-clause-key : goal.returns-clause-key
returns-clause-key g c =
    let dk = c.in_ok-dk.ensures in
    c.decapsulate.ensures ∙ ap₂ (λ (u : KemSet) (x : List ℕ). decaps g.H.Hash.hashes u x c.args.c.now) (ap kem_numbers dk.set ∙ c.in_ok-p.ensures.set) dk.bytes
