use Rattle.std.proofs.Common.{◌≡◌, ◌-◌, T, [], replicate, sym, ap, ◌∙◌, subst, ap₂, arith, lit≤, length-set}
use Rattle.std.proofs.lemmas.List.{append-nil}
use Rattle.standards.specs.Lists.{table, all_below}
use Rattle.standards.specs.Ring.{zero_p}
use Rattle.standards.specs.MlDsaParts.{ball_steps}
use Rattle.algebra.proofs.Tables.{all_below_lem}
use Rattle.algebra.proofs.Draws.{padded}
use Rattle.hash.specs.Streams.{later}
use Rattle.mldsa_laws.proofs.Challenge.{challenge_is}
use Rattle.mldsa_laws.proofs.BallSteps.{step_next, steps_end, sign_is}
use Rattle.sets.specs.Sets.{dsa_numbers}
use Rattle.mldsa_sampling.specs.Ahead.{to_come}
use Rattle.mldsa_sampling.proofs.ball.sample_in_ball.Goals as goal

pub loop-t-init : goal.loop-t-init
loop-t-init g c =
    let h = g.H.Hash.hashes.shake256 in
    let s = h c.args.c.now in
    let start : g.H.Reader256.Reader.rest c.shake256-reader.result ≡ s = c.shake256-reader.ensures ∙ ap h (append-nil c.args.c.now) in
    let none : c.fill.new.self ≡ zero_p = c.fill.ensures.after (λ y e. e) ∙ (ap (λ n. replicate n 0) c.told-f ∙ padded 256 [] (lit≤ tt)) in
    record {
      long = omega arith;
      left = record {
        pos = 8;
        on = c.new-places.ensures ∙ (c.squeeze.ensures.onward ∙ ap (later 8) start);
        is = ap₂ (λ k f. ball_steps k 0 8 s f) {x = c.args.p.tau - 0} {y = c.args.p.tau} (omega arith) none;
      };
    }

pub loop-t-preserved : goal.loop-t-preserved
loop-t-preserved g c =
    let h = g.H.Hash.hashes.shake256 in
    let s = h c.args.c.now in
    let t = c.loop-t.t in
    let start : g.H.Reader256.Reader.rest c.shake256-reader.result ≡ s = c.shake256-reader.ensures ∙ ap h (append-nil c.args.c.now) in
    let r = to_come g.H.Reader256.Reader.rest c.loop-t.places in
    record {
      long = simp (length-set, length-set) c.loop-t.invariant.long;
      left = step_next s r _ c.args.p.tau t _ c.from-j.result _ c.loop-t.f _ (omega arith) (omega (arith, c.args.p.fits.tau_few)) c.loop-t.invariant.left (c.from-j.ensures ∙ c.draw_place.ensures.byte) c.draw_place.ensures.onward
          (c.from.ensures ∙ sign_is s c.squeeze.new.out t (omega (arith, c.args.p.fits.tau_few)) (c.squeeze.ensures.bytes ∙ ap (table 8) start));
    }

pub returns : goal.returns
returns g c =
    let h = g.H.Hash.hashes in
    let m = c.args.c.now in
    let is = steps_end (h.shake256 m) _ c.args.p.tau c.loop-t.t c.loop-t.f _ (omega arith) c.loop-t.invariant.left in
    record {
      value = is;
      below = subst (λ f. T (all_below 8380417 f)) (sym is) (all_below_lem 8380417 _ (λ k _. (challenge_is h g.met.H.Hash.fair (dsa_numbers c.args.p) m).small k));
    }
