-- What is said of a line of ML-DSA, over any hashes: the first thing that is wrong. Assumes nothing.
use Rattle.std.specs.Prelude.{ℕ, Bool, cond, List, Ok, Err, Result, ⊤}
use Rattle.standards.specs.Hashes.{Hashes}
use Rattle.standards.specs.MlDsa.{pk_length, sk_length, sig_length, pk_of, sk_of}
use Rattle.standards.specs.Calls.{dsa_of, dsa_keys_verdict, signed, sign_verdict, accepts}
use Rattle.lines.specs.Problems.{◌>>=◌}
use Rattle.vector_lines.specs.declared.fault.Field.TheVariants.{PublicKey, SecretKey, Signature}
use Rattle.vector_lines.specs.Faults.{differs_at, allowed, compared}
use Rattle.vector_lines.specs.Words.{set_in, field_in, seed_in}

-- the fields of a line, as bytes
pub record DsaFields : Type 0 where
  pub xi : List ℕ
  pub ctx : List ℕ
  pub message : List ℕ
  pub coin : List ℕ
  pub pk : List ℕ
  pub sk : List ℕ
  pub sig : List ℕ

-- ---- keys, then signing and verifying
abbrev pub keys_said : Hashes → ℕ → DsaFields → Result ⊤ (List ℕ)
keys_said h s f = do
  _ ← allowed (dsa_keys_verdict h s f.xi (pk_length (dsa_of s)) (sk_length (dsa_of s)))
  _ ← compared PublicKey f.pk (pk_of h (dsa_of s) f.xi)
  compared SecretKey f.sk (sk_of h (dsa_of s) f.xi)

abbrev pub sign_said : Hashes → ℕ → DsaFields → Result ⊤ (List ℕ)
sign_said h s f = do
  _ ← allowed (sign_verdict h s f.sk f.ctx f.message f.coin (sig_length (dsa_of s)))
  compared Signature f.sig (signed h s f.sk f.ctx f.message f.coin)

-- a signature that verifying does not take differs
abbrev pub taken : Bool → Result ⊤ (List ℕ)
taken good = cond good (Ok tt) (Err (differs_at Signature))

abbrev pub verify_said : Hashes → ℕ → DsaFields → Result ⊤ (List ℕ)
verify_said h s f = taken (accepts h s f.pk f.ctx f.message f.sig)

abbrev pub dsa_said : Hashes → ℕ → DsaFields → Result ⊤ (List ℕ)
dsa_said h s f = do
  _ ← keys_said h s f
  _ ← sign_said h s f
  verify_said h s f

-- ---- words
-- xi ctx message coin pk sk sig: digits first, then the lengths of the seed and the coin
abbrev pub dsa_in : List ℕ → List ℕ → List ℕ → List ℕ → List ℕ → List ℕ → List ℕ → Result DsaFields (List ℕ)
dsa_in xi ctx message coin pk sk sig = do
  xi ← field_in xi
  ctx ← field_in ctx
  message ← field_in message
  coin ← field_in coin
  pk ← field_in pk
  sk ← field_in sk
  sig ← field_in sig
  xi ← seed_in xi
  coin ← seed_in coin
  Ok (record { xi = xi; ctx = ctx; message = message; coin = coin; pk = pk; sk = sk; sig = sig })

-- dsa SET xi ctx message coin pk sk sig
abbrev pub dsa_line : Hashes → List ℕ → List ℕ → List ℕ → List ℕ → List ℕ → List ℕ → List ℕ → List ℕ → Result ⊤ (List ℕ)
dsa_line h set xi ctx message coin pk sk sig = do
  s ← set_in set
  f ← dsa_in xi ctx message coin pk sk sig
  dsa_said h s f
