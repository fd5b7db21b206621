use Rattle.std.proofs.Common.{Bool, cond, ap, ◌∙◌, arith}
use Rattle.sets.specs.Sets.{dsa_numbers}
use Rattle.mldsa_keys.specs.KeyRows.{rows_drawn}
use Rattle.mldsa_keys.proofs.WrittenKeys.{keys_are}
use Rattle.mldsa_keys.proofs.key_gen.Goals as goal

pub returns-then-not-draw-clause-drawn : goal.returns-then-not-draw-clause-drawn
returns-then-not-draw-clause-drawn g c =
    ap (λ (b : Bool). cond b 0 4) (c.if-not-draw.ensures.drawn ∙ ap (rows_drawn g.H.Hash.hashes (dsa_numbers c.args.p)) c.key_seeds-seeds.ensures)

pub returns : goal.returns
returns g c =
    let h = g.H.Hash.hashes in
    let p = dsa_numbers c.args.p in
    let seeds = c.key_seeds-seeds.ensures in
    let rows = c.if-not-draw.ensures in
    let keys = keys_are h p c.args.xi.now c.key_seeds-seeds.result c.draw.new.a c.draw.new.s1 c.draw.new.s2 c.t_rows.new.t c.power2_round_rows.new.t c.power2_round_rows.new.low seeds (omega arith) (omega arith) (omega arith) rows.matrix rows.s1 rows.s2 c.t_rows.ensures.value
    c.power2_round_rows.ensures.high c.power2_round_rows.ensures.low _ _ c.write_pk.ensures c.write_sk.ensures in
    record { drawn = ap (λ (b : Bool). cond b 0 4) (rows.drawn ∙ ap (rows_drawn h p) seeds); public = keys.0; secret = keys.1 }
