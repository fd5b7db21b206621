use Rattle.std.proofs.Common.{◌≡◌, ◌-◌, ◌≤◌, length, take}
use Rattle.standards.specs.Lists.{table}
use Rattle.hash.specs.Streams.{later}
use Rattle.fips202.specs.States.{rest}
use Rattle.fips202.proofs.sponge.Squeezer.squeeze.Given as goal

-- `done` bytes are written, and the stream has gone on by as many
abbrev pub invariant-loop-done : goal.invariant-loop-done
invariant-loop-done g l =
    let f = rest l.initial.self in record {
      within : l.done ≤ length l.out;
      bytes : take l.done l.out ≡ table l.done f;
      onward : rest l.self ≡ later l.done f;
    }

abbrev pub decreases-loop-done : goal.decreases-loop-done
decreases-loop-done g l = length l.initial.out - l.done
