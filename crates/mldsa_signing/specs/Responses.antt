-- What an attempt answers to its challenge. Assumes nothing.
use Rattle.std.specs.Prelude.{Bool, ◌&&◌, List, ℕ}
use Rattle.standards.specs.MlDsaParts.{DsaSet}
use Rattle.mldsa_laws.specs.Steps.{z_step, v_step, ct_step, hint_step, z_short, v_short, ct_short, few_hints, sig_encode}

-- whether the response to a challenge, which is cn transformed, passes its four tests
unfoldable pub response_good : DsaSet → List ℕ → List (List ℕ) → List (List ℕ) → List ℕ → Bool
response_good p sk y w cn =
    let v = v_step p sk w cn in
    let ct = ct_step p sk cn in
    z_short p (z_step p sk y cn) && v_short p v && ct_short p ct && few_hints p (hint_step p v ct)

-- its bytes, behind the commitment hash c
unfoldable pub response_bytes : DsaSet → List ℕ → List (List ℕ) → List (List ℕ) → List ℕ → List ℕ → List ℕ
response_bytes p sk y w c cn = sig_encode p c (z_step p sk y cn) (hint_step p (v_step p sk w cn) (ct_step p sk cn))
