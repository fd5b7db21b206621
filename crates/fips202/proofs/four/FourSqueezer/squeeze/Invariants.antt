use Rattle.std.proofs.Common.{◌≡◌, ◌-◌, ◌≤◌, length, take}
use Rattle.standards.specs.Lists.{table}
use Rattle.hash.specs.Streams.{later_four}
use Rattle.fips202.specs.States.{rest_of, rests}
use Rattle.fips202.proofs.four.FourSqueezer.squeeze.Given as goal

-- `done` bytes of each part are written, and the streams have gone on by as many
abbrev pub invariant-loop-done : goal.invariant-loop-done
invariant-loop-done g l =
    let s = l.initial.self in record {
      within : l.done ≤ length l.a;
      first : take l.done l.a ≡ table l.done (rest_of 0 s);
      second : take l.done l.b ≡ table l.done (rest_of 1 s);
      third : take l.done l.c ≡ table l.done (rest_of 2 s);
      fourth : take l.done l.d ≡ table l.done (rest_of 3 s);
      onward : rests l.self ≡ later_four l.done (rests s);
    }

abbrev pub decreases-loop-done : goal.decreases-loop-done
decreases-loop-done g l = length l.initial.a - l.done
