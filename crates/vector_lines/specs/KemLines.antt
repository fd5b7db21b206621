-- What is said of a line of ML-KEM, over any hashes: the first thing that is wrong. Assumes nothing.
use Rattle.std.specs.Prelude.{ℕ, List, Ok, Result, ⊤}
use Rattle.standards.specs.Hashes.{Hashes}
use Rattle.standards.specs.MlKem.{ek_length, dk_length, text_length, ek_of, dk_of, encaps_key, encaps_text, decaps}
use Rattle.standards.specs.Calls.{kem_of, kem_keys_verdict, encaps_verdict, decaps_verdict}
use Rattle.lines.specs.Problems.{◌>>=◌}
use Rattle.vector_lines.specs.declared.fault.Field.TheVariants.{EncapsulationKey, DecapsulationKey, Ciphertext, SharedKey}
use Rattle.vector_lines.specs.Faults.{allowed, compared}
use Rattle.vector_lines.specs.Words.{set_in, field_in, seed_in}

-- ---- keys, then encapsulation and decapsulation
abbrev pub keys_said : Hashes → ℕ → List ℕ → List ℕ → List ℕ → List ℕ → Result ⊤ (List ℕ)
keys_said h s d z ek dk = do
  _ ← allowed (kem_keys_verdict h s d (ek_length (kem_of s)) (dk_length (kem_of s)))
  _ ← compared EncapsulationKey ek (ek_of h (kem_of s) d)
  compared DecapsulationKey dk (dk_of h (kem_of s) d z)

abbrev pub encaps_said : Hashes → ℕ → List ℕ → List ℕ → List ℕ → List ℕ → Result ⊤ (List ℕ)
encaps_said h s ek m c key = do
  _ ← allowed (encaps_verdict h s ek (text_length (kem_of s)))
  _ ← compared Ciphertext c (encaps_text h (kem_of s) ek m)
  compared SharedKey key (encaps_key h ek m)

abbrev pub decaps_said : Hashes → ℕ → List ℕ → List ℕ → List ℕ → Result ⊤ (List ℕ)
decaps_said h s dk c key = do
  _ ← allowed (decaps_verdict h s dk c)
  compared SharedKey key (decaps h (kem_of s) dk c)

-- the fields of a line, as bytes
pub record KemFields : Type 0 where
  pub d : List ℕ
  pub z : List ℕ
  pub m : List ℕ
  pub ek : List ℕ
  pub dk : List ℕ
  pub c : List ℕ
  pub key : List ℕ

abbrev pub kem_said : Hashes → ℕ → KemFields → Result ⊤ (List ℕ)
kem_said h s f = do
  _ ← keys_said h s f.d f.z f.ek f.dk
  _ ← encaps_said h s f.ek f.m f.c f.key
  decaps_said h s f.dk f.c f.key

-- ---- words
-- d z m ek dk c K: digits first, then the lengths of the seeds
abbrev pub kem_in : List ℕ → List ℕ → List ℕ → List ℕ → List ℕ → List ℕ → List ℕ → Result KemFields (List ℕ)
kem_in d z m ek dk c key = do
  d ← field_in d
  z ← field_in z
  m ← field_in m
  ek ← field_in ek
  dk ← field_in dk
  c ← field_in c
  key ← field_in key
  d ← seed_in d
  z ← seed_in z
  m ← seed_in m
  Ok (record { d = d; z = z; m = m; ek = ek; dk = dk; c = c; key = key })

-- kem SET d z m ek dk c K
abbrev pub kem_line : Hashes → List ℕ → List ℕ → List ℕ → List ℕ → List ℕ → List ℕ → List ℕ → List ℕ → Result ⊤ (List ℕ)
kem_line h set d z m ek dk c key = do
  s ← set_in set
  f ← kem_in d z m ek dk c key
  kem_said h s f
