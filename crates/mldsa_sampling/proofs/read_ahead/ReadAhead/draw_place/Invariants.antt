use Rattle.std.proofs.Common.{◌≡◌, ◌-◌}
use Rattle.standards.specs.MlDsaParts.{first_at_most}
use Rattle.hash.specs.Streams.{later}
use Rattle.mldsa_sampling.specs.Ahead.{to_come}
use Rattle.mldsa_sampling.proofs.read_ahead.ReadAhead.draw_place.Given as goal

abbrev pub invariant-loop-seen : goal.invariant-loop-seen
invariant-loop-seen g l =
    let s = to_come g.R.Reader.rest l.initial.self in record {
      onward : to_come g.R.Reader.rest l.self ≡ later l._seen s;
      none_yet : first_at_most (1024 - l._seen) l._seen l.i s ≡ first_at_most 1024 0 l.i s;
    }
