use Rattle.std.proofs.Common.{inl, inr, arith}
use Rattle.standards.specs.MlDsaParts.{first_at_most}
use Rattle.mldsa_laws.proofs.BallSteps.{first_next, next_read, next_onward, place_found}
use Rattle.mldsa_sampling.specs.Ahead.{to_come}
use Rattle.mldsa_sampling.proofs.read_ahead.ReadAhead.draw_place.Goals as goal

pub loop-seen-preserved : goal.loop-seen-preserved
loop-seen-preserved g c =
    let s = to_come g.R.Reader.rest c.args.self.now in
    let r = to_come g.R.Reader.rest c.loop-seen.self in
    let seen = c.loop-seen._seen in
    let b = c.next_byte-b.result in
    record {
      onward = next_onward s r (to_come g.R.Reader.rest c.next_byte-b.new.self) seen c.loop-seen.invariant.onward c.next_byte-b.ensures.onward;
      none_yet = first_next s 1024 seen c.args.i b (first_at_most 1024 0 c.args.i s) (omega arith) (next_read s r seen b c.loop-seen.invariant.onward c.next_byte-b.ensures.byte) (omega arith) c.loop-seen.invariant.none_yet;
    }

pub returns-then-from-i : goal.returns-then-from-i
returns-then-from-i g c =
    let s = to_come g.R.Reader.rest c.args.self.now in
    let found = place_found s (to_come g.R.Reader.rest c.loop-seen.self) (to_come g.R.Reader.rest c.next_byte-b.new.self) 1024 c.loop-seen._seen c.args.i c.next_byte-b.result (first_at_most 1024 0 c.args.i s)
    c.loop-seen.invariant.onward c.loop-seen.invariant.none_yet c.next_byte-b.ensures.byte c.next_byte-b.ensures.onward (inl (omega arith)) in
    record { byte = found.0; onward = found.1 }

pub returns : goal.returns
returns g c =
    let s = to_come g.R.Reader.rest c.args.self.now in
    let found = place_found s (to_come g.R.Reader.rest c.loop-seen.self) (to_come g.R.Reader.rest c.next_byte.new.self) 1024 c.loop-seen._seen c.args.i c.next_byte.result (first_at_most 1024 0 c.args.i s)
    c.loop-seen.invariant.onward c.loop-seen.invariant.none_yet c.next_byte.ensures.byte c.next_byte.ensures.onward (inr (omega arith)) in
    record { byte = found.0; onward = found.1 }
