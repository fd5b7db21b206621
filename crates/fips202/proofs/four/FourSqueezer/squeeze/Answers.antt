use Rattle.std.proofs.Common.{◌≡◌, ◌+◌, ◌-◌, length, take, drop, refl, ap, ◌∙◌, arith, rules}
use Rattle.std.proofs.Math.Path.{fun_ext}
use Rattle.std.proofs.lemmas.List.{places}
use Rattle.standards.specs.Lists.{from}
use Rattle.hash.specs.Streams.{later_four}
use Rattle.fips202.specs.States.{rest_of, rests}
use Rattle.fips202.proofs.FourStreams.{each_of, more_of, later_four-later_four}
use Rattle.fips202.proofs.four.FourSqueezer.squeeze.Goals as goal

pub loop-done-init : goal.loop-done-init
unfolding from
loop-done-init g c = record {
  within = omega arith;
  first = refl;
  second = refl;
  third = refl;
  fourth = refl;
  onward = each_of (fun_ext (λ i. grind arith)) (fun_ext (λ i. grind arith)) (fun_ext (λ i. grind arith)) (fun_ext (λ i. grind arith));
}

pub loop-done-preserved : goal.loop-done-preserved
loop-done-preserved g c =
    let s = c.args.self.now in
    let was = c.loop-done in
    let i = was.done in
    let n = c.min.result in
    let call = c.squeeze_within in
    let on = c.turn.ensures.same ∙ was.invariant.onward in
    let size : length (take (i + n - i) (drop i was.a)) ≡ n = search (rules, places) in
    record {
      within = search (rules, places);
      first = more_of (rest_of 0 s) (rest_of 0 c.turn.new.self) i n (i + n - i) _ was.a call.new.a (omega arith) size was.invariant.first call.ensures.first (ap (λ r. r.first) on);
      second = more_of (rest_of 1 s) (rest_of 1 c.turn.new.self) i n (i + n - i) _ was.b call.new.b (omega arith) size was.invariant.second call.ensures.second (ap (λ r. r.second) on);
      third = more_of (rest_of 2 s) (rest_of 2 c.turn.new.self) i n (i + n - i) _ was.c call.new.c (omega arith) size was.invariant.third call.ensures.third (ap (λ r. r.third) on);
      fourth = more_of (rest_of 3 s) (rest_of 3 c.turn.new.self) i n (i + n - i) _ was.d call.new.d (omega arith) size was.invariant.fourth call.ensures.fourth (ap (λ r. r.fourth) on);
      onward = call.ensures.onward ∙ (ap (later_four (length (take (i + n - i) (drop i was.a)))) on ∙ (later_four-later_four _ i (rests s) ∙ ap (λ k. later_four (i + k) (rests s)) size));
    }
