-- What is wrong with a line of outside vectors, and how it is printed. Assumes nothing.
use Rattle.std.specs.Prelude.{◌≡◌, ℕ, cond, List, ◌++◌, codes, decimal, bytes_eq, ◌==◌, Ok, Err, Result, Some, None, Option, IfSome, ⊤}
use Rattle.vector_lines.specs.declared.fault.Field.{Field}
use Rattle.vector_lines.specs.declared.fault.Field.TheVariants.{EncapsulationKey, DecapsulationKey, Ciphertext, SharedKey, PublicKey, SecretKey, Signature}
use Rattle.vector_lines.specs.declared.fault.Fault.{Fault}
use Rattle.vector_lines.specs.declared.fault.Fault.TheVariants.{Differs, No}
use Rattle.files.specs.Problems.{problem_number, problem_text}

-- the name of a field
abbrev pub field_name : Field → List ℕ
field_name EncapsulationKey = codes "ek"
field_name DecapsulationKey = codes "dk"
field_name Ciphertext = codes "c"
field_name SharedKey = codes "K"
field_name PublicKey = codes "pk"
field_name SecretKey = codes "sk"
field_name Signature = codes "sig"

-- a field that differs
abbrev pub differs_at : Field → List ℕ
differs_at field = codes "differs at " ++ field_name field

-- how a fault is spelled
abbrev pub fault_text : Fault → List ℕ
fault_text (Differs field) = differs_at field
fault_text (No problem) = codes "no " ++ problem_text problem

-- a refusal by its number
abbrev pub refused_by : ℕ → List ℕ
refused_by n = codes "no " ++ decimal n

-- What the code gives is what is stated: a value, or what is wrong. Memory may be wanting whatever is stated
abbrev pub Says : {X Y : Type 0} → (X → Y) → Result X Fault → Result Y (List ℕ) → Type 0
Says view (Ok x) said = said ≡ Ok (view x)
Says view (Err (Differs field)) said = said ≡ Err (differs_at field)
Says view (Err (No problem)) said = IfSome (problem_number problem) (λ n. said ≡ Err (refused_by n))

-- what is said of a line, by its fault
abbrev pub said_of : Option Fault → Result ⊤ (List ℕ)
said_of None = Ok tt
said_of (Some fault) = Err (fault_text fault)

-- ---- steps that find nothing wrong, or say what is
-- what a call answers
abbrev pub allowed : ℕ → Result ⊤ (List ℕ)
allowed n = cond (n == 0) (Ok tt) (Err (refused_by n))

-- what a line states is what a call gives
abbrev pub compared : Field → List ℕ → List ℕ → Result ⊤ (List ℕ)
compared field stated made = cond (bytes_eq stated made) (Ok tt) (Err (differs_at field))
