use Rattle.std.proofs.Common.{ℕ, sym, ap, ◌∙◌, arith}
use Rattle.hash.specs.Streams.{later}
use Rattle.mldsa_sampling.proofs.Ahead.{ahead-byte, ahead_next}
use Rattle.mldsa_sampling.proofs.read_ahead.ReadAhead.next_byte.Goals as goal

pub returns : goal.returns
returns g c =
    let self = c.refill.new.self in
    let rest = g.R.Reader.rest self.reader in
    record {
      byte = sym (ahead-byte self.block self.pos rest (omega arith)) ∙ ap (λ (f : ℕ → ℕ). f 0) c.refill.ensures.same;
      onward = ahead_next self.block self.pos rest ∙ ap (later 1) c.refill.ensures.same;
    }
