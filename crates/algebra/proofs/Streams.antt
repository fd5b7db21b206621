-- Bits on their way: numbers of some bits come in, numbers of other bits go out, and what has not gone out yet waits. The same record serves
-- both directions, from numbers of d bits to bytes and from bytes to numbers of d bits.
use Rattle.std.proofs.Common.{◌≡◌, ℕ, ◌+◌, ◌*◌, ◌/◌, ◌%◌, ◌^◌, ◌<◌, List, length, set, sym, ap, ◌∙◌, subst, arith}
use Rattle.std.proofs.Math.Nat.{mod-one}
use Rattle.standards.specs.Lists.{table, at}
use Rattle.algebra.proofs.Tables.{is_table, put_next}
use Rattle.algebra.proofs.Windows.{window, window_join, window_low, window_rest, window_below}

-- Of the whole v, n numbers of c bits have come in and k numbers of b bits have gone out, to the front of out; the bits between, h of them, wait in w.
pub record Waiting (v c b n k h w : ℕ) (out : List ℕ) : Type 0 where
  pub place : b * k + h ≡ c * n
  pub bits : w ≡ window v (b * k) h
  pub gone : (t : ℕ) → t < k → at out t ≡ window v (b * t) b

module _ {v c b : ℕ} where
  pub none_yet : (out : List ℕ) → Waiting v c b 0 0 0 0 out
  none_yet out = record { place = omega arith; bits = sym (mod-one (v / 2 ^ (b * 0))); gone = λ t h. absurd (omega arith) }

  -- the next number comes in above those that wait
  pub comes : {n k h w : ℕ} {out : List ℕ} (x : ℕ) → x ≡ window v (c * n) c → Waiting v c b n k h w out → Waiting v c b (n + 1) k (h + c) (w + x * 2 ^ h) out
  comes {n} {k} {h} {w} {out} x e s = record {
    place = omega (arith, s.place);
    bits = ap (λ y. w + y * 2 ^ h) (e ∙ ap (λ y. window v y c) (sym s.place)) ∙ (ap (λ y. y + window v (b * k + h) c * 2 ^ h) s.bits ∙ window_join v (b * k) h c);
    gone = s.gone;
  }

  -- the lowest b bits go out, where h + b wait
  pub goes : {n k h w : ℕ} {out : List ℕ} → k < length out → Waiting v c b n k (b + h) w out → Waiting v c b n (k + 1) h (w / 2 ^ b) (set out k (w % 2 ^ b))
  goes {n} {k} {h} {w} {out} l s = record {
    place = omega (arith, s.place);
    bits = ap (λ y. y / 2 ^ b) s.bits ∙ (window_rest v (b * k) b h ∙ ap (λ y. window v y h) {x = b * k + b} {y = b * (k + 1)} (omega arith));
    gone = subst (λ y. (t : ℕ) → t < k + 1 → at (set out k y) t ≡ window v (b * t) b) low (put_next (λ t. window v (b * t) b) out k l s.gone);
  }
    where
      low : window v (b * k) b ≡ w % 2 ^ b
      low = sym (ap (λ y. y % 2 ^ b) s.bits ∙ window_low v (b * k) b h)

  pub waiting_below : {n k h w : ℕ} {out : List ℕ} → Waiting v c b n k h w out → w < 2 ^ h
  waiting_below {n} {k} {h} s = rw s.bits (window_below v (b * k) h)

  -- all are out
  pub all_gone : {n k h w : ℕ} {out : List ℕ} → length out ≡ k → Waiting v c b n k h w out → out ≡ table k (λ t. window v (b * t) b)
  all_gone {n} {k} {h} {w} {out} l s = is_table k (λ t. window v (b * t) b) out l s.gone
