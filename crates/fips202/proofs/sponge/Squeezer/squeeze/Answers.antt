use Rattle.std.proofs.Common.{◌-◌, length, refl, ap, ◌∙◌, arith, rules}
use Rattle.std.proofs.Math.Path.{fun_ext}
use Rattle.std.proofs.lemmas.List.{places}
use Rattle.standards.specs.Lists.{from, table}
use Rattle.hash.proofs.Parts.{later-later}
use Rattle.fips202.specs.States.{rest}
use Rattle.fips202_laws.proofs.Reading.{read_more}
use Rattle.fips202.proofs.sponge.Squeezer.squeeze.Goals as goal

pub loop-done-init : goal.loop-done-init
unfolding from
loop-done-init g c = record { within = omega arith; bytes = refl; onward = fun_ext (λ i. grind arith) }

pub loop-done-preserved : goal.loop-done-preserved
loop-done-preserved g c =
    let f = rest c.args.self.now in
    let i = c.loop-done.done in
    let out = c.loop-done.out in
    let call = c.squeeze_some-done in
    let inv = c.loop-done.invariant in
    record {
      within = search (rules, places);
      bytes = read_more f i call.result (length out - i) out call.new.out (omega arith) (omega arith) inv.bytes (call.ensures.bytes ∙ ap (table call.result) inv.onward);
      onward = cc (later-later call.result i f);
    }
