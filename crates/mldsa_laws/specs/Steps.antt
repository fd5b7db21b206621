-- One attempt at signing in its steps, each shut: what the code's parts owe. That they make up the standards' text is a lemma.
use Rattle.std.specs.Prelude.{ℕ, ◌+◌, ◌-◌, ◌/◌, ◌%◌, Bool, List, ◌++◌, nat_le, nat_lt}
use Rattle.standards.specs.Lists.{table, tables, at, row_at, joined}
use Rattle.standards.specs.Ring.{zero_p, add_p, sub_p, sum_p, norms}
use Rattle.standards.specs.Hashes.{Hashes, shake256_bytes}
use Rattle.standards.specs.MlDsaParts.{DsaSet, q, gamma1, beta, bit_pack, z_bits, w1_encode, hint_bit_pack, hint_count, sample_in_ball, expand_a, expand_mask, high_bits_p, low_bits_p, make_hint_p, ntt, ntt_inv, multiply_ntt}
use Rattle.standards.specs.MlDsa.{sk_rho, sk_s1, sk_s2, sk_t0}

-- a draw with noughts in its empty places
abbrev pub padded : List ℕ → List ℕ
padded f = table 256 (at f)

-- the matrix of k rows of l entries, row after row, as the code holds it
abbrev pub entry_at : Hashes → ℕ → List ℕ → ℕ → List ℕ
entry_at h l rho n = padded (expand_a h rho (n / l) (n % l))

-- y, w, the commitment hash, c transformed, z, w - c s2, c t0, the hint
unfoldable pub y_step : Hashes → DsaSet → List ℕ → ℕ → List (List ℕ)
y_step h p r kappa = tables p.l (λ i. expand_mask h p r (kappa + i))

unfoldable pub w_step : Hashes → DsaSet → List ℕ → List (List ℕ) → List (List ℕ)
w_step h p sk y =
    let yn = tables p.l (λ i. ntt (row_at y i)) in tables p.k (λ i. ntt_inv (sum_p q p.l (λ j. multiply_ntt (expand_a h (sk_rho sk) i j) (row_at yn j))))

unfoldable pub c_step : Hashes → DsaSet → List ℕ → List (List ℕ) → List ℕ
c_step h p mu w = shake256_bytes h (mu ++ w1_encode p (tables p.k (λ i. high_bits_p p.gamma2 (row_at w i)))) (p.lambda / 4)

unfoldable pub challenge_step : Hashes → DsaSet → List ℕ → List ℕ
challenge_step h p c = ntt (sample_in_ball h p c)

unfoldable pub z_step : DsaSet → List ℕ → List (List ℕ) → List ℕ → List (List ℕ)
z_step p sk y cn = tables p.l (λ i. add_p q (row_at y i) (ntt_inv (multiply_ntt cn (ntt (sk_s1 p sk i)))))

unfoldable pub v_step : DsaSet → List ℕ → List (List ℕ) → List ℕ → List (List ℕ)
v_step p sk w cn = tables p.k (λ i. sub_p q (row_at w i) (ntt_inv (multiply_ntt cn (ntt (sk_s2 p sk i)))))

unfoldable pub ct_step : DsaSet → List ℕ → List ℕ → List (List ℕ)
ct_step p sk cn = tables p.k (λ i. ntt_inv (multiply_ntt cn (ntt (sk_t0 p sk i))))

unfoldable pub hint_step : DsaSet → List (List ℕ) → List (List ℕ) → List (List ℕ)
hint_step p v ct = tables p.k (λ i. make_hint_p p.gamma2 (sub_p q zero_p (row_at ct i)) (add_p q (row_at v i) (row_at ct i)))

-- the four tests that an attempt has to pass
unfoldable pub z_short : DsaSet → List (List ℕ) → Bool
z_short p z = nat_lt (norms q z) (gamma1 p - beta p)

unfoldable pub v_short : DsaSet → List (List ℕ) → Bool
v_short p v = nat_lt (norms q (tables p.k (λ i. low_bits_p p.gamma2 (row_at v i)))) (p.gamma2 - beta p)

unfoldable pub ct_short : DsaSet → List (List ℕ) → Bool
ct_short p ct = nat_lt (norms q ct) p.gamma2

unfoldable pub few_hints : DsaSet → List (List ℕ) → Bool
few_hints p hs = nat_le (hint_count hs) p.omega

-- sigEncode
unfoldable pub sig_encode : DsaSet → List ℕ → List (List ℕ) → List (List ℕ) → List ℕ
sig_encode p c z hs = c ++ (joined (tables p.l (λ i. bit_pack (z_bits p) (gamma1 p) (row_at z i))) ++ hint_bit_pack p hs)
