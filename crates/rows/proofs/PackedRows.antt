-- Rows of w bytes that are packed one after the other.
use Rattle.std.proofs.Common.{◌≡◌, ℕ, ◌+◌, ◌-◌, ◌*◌, ◌<◌, ◌≤◌, List, length, take, sym, ap, ◌∙◌, arith}
use borrow.Rule.Slice.PartMut.{put_mid}
use Rattle.standards.specs.Lists.{joined, tables}
use Rattle.algebra.proofs.RowArrays.{put_row, joined_none, row_ends_lem}

pub packed_none : (w : ℕ) (f : ℕ → List ℕ) (out : List ℕ) → take (w * 0) out ≡ joined (tables 0 f)
packed_none w f out = ap (λ n. take n out) {x = w * 0} {y = 0} (omega arith) ∙ sym (joined_none f)

-- row i of k
pub packed_next : (w i k : ℕ) (f : ℕ → List ℕ) (out new : List ℕ) → i < k → length out ≡ w * k → length new ≡ w → new ≡ f i → take (w * i) out ≡ joined (tables i f) →
    take (w * (i + 1)) (put_mid (w * i) (w * i + w - w * i) out new) ≡ joined (tables (i + 1) f)
packed_next w i k f out new h all long is was =
    let room : w * i + w ≤ length out = omega (arith, row_ends_lem w i k h) in
    put_row w i (w * i + w - w * i) f out new (omega arith) long is was
