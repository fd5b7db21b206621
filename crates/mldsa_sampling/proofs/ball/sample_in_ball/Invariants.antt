use Rattle.std.proofs.Common.{◌≡◌, ◌-◌, length}
use Rattle.standards.specs.Ring.{zero_p}
use Rattle.standards.specs.MlDsaParts.{ball_steps}
use Rattle.mldsa_laws.proofs.BallSteps.{Left}
use Rattle.mldsa_sampling.specs.Ahead.{to_come}
use Rattle.mldsa_sampling.proofs.ball.sample_in_ball.Given as goal

abbrev pub invariant-loop-t : goal.invariant-loop-t
invariant-loop-t g l =
    let s = g.H.Hash.hashes.shake256 l.c in record {
      long : length l.f ≡ 256;
      left : Left s (to_come g.H.Reader256.Reader.rest l.places) (l.p.tau - l.t) l.t l.f (ball_steps l.p.tau 0 8 s zero_p);
    }
