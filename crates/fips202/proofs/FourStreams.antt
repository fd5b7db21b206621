-- Four streams that go on together.
use Rattle.std.proofs.Common.{◌≡◌, ℕ, ◌+◌, ◌-◌, ◌<◌, ◌≤◌, List, [], length, take, drop, sym, ap, ◌∙◌, arith}
use borrow.Rule.Slice.PartMut.{put_mid}
use Rattle.std.proofs.lemmas.List.{take_at, take_all}
use Rattle.standards.specs.Lists.{table}
use Rattle.standards.specs.Fips202.{state_byte, keccak_f}
use Rattle.algebra.proofs.Tables.{length-table}
use Rattle.hash.specs.Streams.{Four, later, later_four}
use Rattle.hash.proofs.Parts.{later-later}
use Rattle.fips202_laws.specs.Sponges.{read_from}
use Rattle.fips202_laws.proofs.Reading.{read_next, read_part, read_more}

pub each_of : {a b c d a' b' c' d' : ℕ → ℕ} → a ≡ a' → b ≡ b' → c ≡ c' → d ≡ d' →
    ◌≡◌ {A = Four} (record { first = a; second = b; third = c; fourth = d }) (record { first = a'; second = b'; third = c'; fourth = d' })
each_of p q r s = λ i. record { first = p i; second = q i; third = r i; fourth = s i }

-- past the end of a block comes the next one
pub next_of : (rate place : ℕ) (a b : List ℕ) → 0 < rate → place ≡ rate → b ≡ keccak_f a → read_from rate b 0 ≡ read_from rate a place
next_of rate place a b pos end step = ap (λ s. read_from rate s 0) step ∙ (read_next rate a pos ∙ ap (read_from rate a) (sym end))

-- n bytes of a block
pub part_of : (rate place n : ℕ) (a bytes ys : List ℕ) → place + n ≤ rate → rate ≤ 200 → length ys ≡ n → bytes ≡ table 200 (state_byte a) →
    ys ≡ take (place + n - place) (drop place bytes) → ys ≡ table n (read_from rate a place)
part_of rate place n a bytes ys fits high len all part = sym (take_at ys [] n len) ∙ read_part rate place n a bytes ys [] fits high all part

-- a part of which i bytes are written, and then n more
pub more_of : (f g : ℕ → ℕ) (i n m k : ℕ) (out ys : List ℕ) → i ≤ length out → k ≡ n → take i out ≡ table i f → ys ≡ table k g → g ≡ later i f →
    take (i + n) (put_mid i m out ys) ≡ table (i + n) f
more_of f g i n m k out ys low count was new on =
    let len : length ys ≡ n = ap length new ∙ (length-table k g ∙ count) in
    read_more f i n m out ys low (omega arith) was (take_all n ys (omega arith) ∙ (new ∙ (ap (λ j. table j g) count ∙ ap (table n) on)))

pub later_four-later_four : (a b : ℕ) (s : Four) → later_four a (later_four b s) ≡ later_four (b + a) s
later_four-later_four a b s = each_of (later-later a b s.first) (later-later a b s.second) (later-later a b s.third) (later-later a b s.fourth)
