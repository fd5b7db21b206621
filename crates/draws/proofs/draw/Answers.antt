use Rattle.std.proofs.Common.{◌≡◌, ◌+◌, ◌*◌, ◌≤◌, ◌++◌, length, take, map, sym, ap, ◌∙◌, ap₂, arith}
use Rattle.std.proofs.lemmas.List.{length-take-le}
use Rattle.std.proofs.Math.Path.{fun_ext}
use Rattle.std.proofs.Math.Nat.{mul-le-mul_left}
use Rattle.standards.specs.Lists.{table, at}
use Rattle.algebra.proofs.Draws.{draw_full, draw_out}
use Rattle.algebra.proofs.Words.{length-numbers}
use Rattle.hash.specs.Streams.{later}
use Rattle.draws.specs.Kept.{kept}
use Rattle.draws.proofs.Numbers.{numbers-take}
use Rattle.draws.proofs.Groups.{kept-none, drawn_below, block_next}
use Rattle.draws.proofs.draw.Goals as goal

pub draw-init : goal.draw-init
draw-init g c =
    let C = g.C.Candidates in
    let s = g.R.Reader.rest c.args.reader.now in
    record {
      front = g.met.C.Number.Word.numbers_are c.truncate.new.self ∙ (ap (map g.C.Number.Word.value) c.truncate.ensures ∙ sym (kept-none (C.fits c.args.kind) (C.number c.args.kind) (C.candidate s) (C.EACH * 0) (omega arith)));
      onward = fun_ext (λ i. ap s {x = i} {y = C.BYTES * 0 + i} (omega arith));
      few = omega arith;
    }

pub draw-smaller : goal.draw-smaller
draw-smaller g c = omega (arith, g.met.C.Candidates.block_some)

pub draw-preserved : goal.draw-preserved
draw-preserved g c =
    let C = g.C.Candidates in
    let s = g.R.Reader.rest c.args.reader.now in
    let m = c.draw.seen in
    let n = c.min-groups.result in
    let fits = C.fits c.args.kind in
    let number = C.number c.args.kind in
    record {
      front = c.draw_next.ensures.front ∙ (ap₂ (λ xs r. xs ++ kept fits number (C.candidate (at (table (C.BYTES * n) r))) (C.EACH * n)) c.draw.invariant.front c.draw.invariant.onward ∙
          block_next fits number C.candidate C.BYTES C.EACH g.met.C.Candidates.of_block s m n);
      onward = c.draw_next.ensures.onward ∙ (ap (later (C.BYTES * n)) c.draw.invariant.onward ∙ fun_ext (λ i. ap s {x = C.BYTES * m + (C.BYTES * n + i)} {y = C.BYTES * (m + n) + i} (omega arith)));
      few = omega arith;
    }

-- all were looked at, and too few fit
pub returns-then-seen-GROUPS-clause-drawn : goal.returns-then-seen-GROUPS-clause-drawn
returns-then-seen-GROUPS-clause-drawn g c =
    let C = g.C.Candidates in
    let W = g.C.Number.Word in
    let x = C.candidate (g.R.Reader.rest c.args.reader.now) in
    let all : W.numbers c.draw.row ≡ kept (C.fits c.args.kind) (C.number c.args.kind) x (C.EACH * C.GROUPS) =
    c.draw.invariant.front ∙ ap (λ n. kept (C.fits c.args.kind) (C.number c.args.kind) x (C.EACH * n)) {x = c.draw.seen} {y = C.GROUPS} (omega arith) in
    all ∙ draw_out (λ k. C.fits c.args.kind (x k)) (λ k. C.number c.args.kind (x k)) (C.EACH * C.GROUPS) 256
    (omega (arith, ap length all, length-numbers W.value W.numbers g.met.C.Number.Word.numbers_are c.draw.row))

pub returns-then-seen-GROUPS-clause-below : goal.returns-then-seen-GROUPS-clause-below
returns-then-seen-GROUPS-clause-below g c =
    let C = g.C.Candidates in
    drawn_below (C.fits c.args.kind) (C.number c.args.kind) C.bound (g.met.C.Candidates.small c.args.kind) (C.candidate (g.R.Reader.rest c.args.reader.now)) (C.EACH * C.GROUPS) _
    (returns-then-seen-GROUPS-clause-drawn g c)

-- as many as are needed fit
pub returns-clause-drawn : goal.returns-clause-drawn
returns-clause-drawn g c =
    let C = g.C.Candidates in
    let W = g.C.Number.Word in
    let x = C.candidate (g.R.Reader.rest c.args.reader.now) in
    let are = g.met.C.Number.Word.numbers_are in
    let few : C.EACH * c.draw.seen ≤ C.EACH * C.GROUPS = mul-le-mul_left C.EACH c.draw.invariant.few in
    ap W.numbers c.truncate-2.ensures ∙ (numbers-take W.value W.numbers are 256 c.draw.row ∙ (ap (take 256) c.draw.invariant.front ∙
    draw_full (λ k. C.fits c.args.kind (x k)) (λ k. C.number c.args.kind (x k)) (C.EACH * C.GROUPS) (C.EACH * c.draw.seen) 256 few
    (omega (arith, ap length c.draw.invariant.front, length-numbers W.value W.numbers are c.draw.row))))

pub returns-clause-below : goal.returns-clause-below
returns-clause-below g c =
    let C = g.C.Candidates in
    drawn_below (C.fits c.args.kind) (C.number c.args.kind) C.bound (g.met.C.Candidates.small c.args.kind) (C.candidate (g.R.Reader.rest c.args.reader.now)) (C.EACH * C.GROUPS) _
    (returns-clause-drawn g c)

pub returns-clause-full : goal.returns-clause-full
returns-clause-full g c = ap length c.truncate-2.ensures ∙ length-take-le 256 c.draw.row (omega arith)
