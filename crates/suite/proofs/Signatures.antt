-- A signature that was made passes.
use Rattle.std.proofs.Common.{◌≡◌, ℕ, Bool, true, ◌&&◌, leb, eqb, T, List, length, sym, ap, ◌∙◌, subst}
use Rattle.standards.specs.Lists.{all_below}
use Rattle.standards.specs.Bytes.{Bytes}
use Rattle.standards.specs.Hashes.{Hashes, Fair}
use Rattle.standards.specs.MlDsa.{pk_of, sk_of, sk_length, verify}
use Rattle.standards.specs.Calls.{is_set, dsa_of, signed, sign_verdict, accepts}
use Rattle.algebra.proofs.Tests.{is_true}
use Rattle.mldsa_laws.proofs.SignaturesPass.{signatures_pass}
use Rattle.suite.proofs.Verdicts.{one_dsa, signs, some}

pub passes : (h : Hashes) → Fair h → (s : ℕ) (xi ctx m coin : List ℕ) → Bytes 32 xi → T (all_below 256 ctx) → T (all_below 256 m) → Bytes 32 coin →
    (pk sk sig : List ℕ) (ls : ℕ) (good : Bool) → pk ≡ pk_of h (dsa_of s) xi → sk ≡ sk_of h (dsa_of s) xi → 0 ≡ sign_verdict h s sk ctx m coin ls → sig ≡ signed h s sk ctx m coin →
    good ≡ accepts h s pk ctx m sig → good ≡ true
passes h fair s xi ctx m coin bxi bctx bm bcoin pk sk sig ls good ep es v eg answer =
    let own = ap (λ x. signed h s x ctx m coin) es in
    let ok = signs (is_set s) (eqb (length sk) (sk_length (dsa_of s)) && eqb ls _) (leb (length ctx) 255) (eqb (length (signed h s sk ctx m coin)) 0) v in
    let made = some _ (ap (λ x. eqb (length x) 0) (sym own) ∙ ok.2) in
    answer ∙
    (ap (λ x. accepts h s x ctx m sig) ep ∙ (ap (accepts h s (pk_of h (dsa_of s) xi) ctx m) (eg ∙ own) ∙
    (ap (λ b. b && verify h (dsa_of s) (pk_of h (dsa_of s) xi) ctx m (signed h s (sk_of h (dsa_of s) xi) ctx m coin)) ok.0 ∙
    is_true _ (signatures_pass h fair (dsa_of s) (one_dsa s) xi ctx m coin bxi (subst T (sym ok.1) tt) bctx bm bcoin made))))
