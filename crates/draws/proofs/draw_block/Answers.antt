use Rattle.std.proofs.Common.{◌≡◌, ◌+◌, ◌*◌, ◌≤◌, ◌++◌, sym, ap, ◌∙◌, arith}
use Rattle.std.proofs.lemmas.List.{append-nil}
use Rattle.std.proofs.Math.Nat.{mul-le-mul_left}
use Rattle.standards.specs.Lists.{at}
use Rattle.draws.specs.Kept.{kept}
use Rattle.draws.proofs.Numbers.{put_more, longer}
use Rattle.draws.proofs.Groups.{kept-none, length-kept, group_next}
use Rattle.draws.proofs.draw_block.Goals as goal

pub loop-g-init : goal.loop-g-init
loop-g-init g c =
    let C = g.C.Candidates in
    let row = g.C.Number.Word.numbers c.args.row.now in
    let none = kept-none (C.fits c.args.kind) (C.number c.args.kind) (C.candidate (at c.args.block.now)) (C.EACH * 0) (omega arith) in
    record { front = sym (ap (λ xs. row ++ xs) none ∙ append-nil row); count = omega arith }

pub loop-g-preserved : goal.loop-g-preserved
loop-g-preserved g c =
    let C = g.C.Candidates in
    let W = g.C.Number.Word in
    let fits = C.fits c.args.kind in
    let number = C.number c.args.kind in
    let block = c.args.block.now in
    let i = c.loop-g.g in
    let start = c.BYTES.result * i in
    let end = c.BYTES-in-loop-g.result * (i + 1) in
    let within : C.BYTES * (i + 1) ≤ C.BYTES * c.args.groups = mul-le-mul_left C.BYTES (omega arith) in
    let starts : start ≡ C.BYTES * i = ap (λ n. n * i) c.BYTES.ensures in
    let ends : end ≡ C.BYTES * (i + 1) = ap (λ n. n * (i + 1)) c.BYTES-in-loop-g.ensures in
    let step = group_next fits number C.candidate C.BYTES C.EACH g.met.C.Candidates.of_block block i start end starts ends (omega (arith, within, ends)) in
    let front = put_more (W.numbers c.args.row.now) (W.numbers c.loop-g.row) (W.numbers c.offer.new.row) _ _ _ c.loop-g.invariant.front c.offer.ensures step in
    record {
      front = front;
      count = omega (arith, longer W.value W.numbers g.met.C.Number.Word.numbers_are c.args.row.now c.offer.new.row (kept fits number (C.candidate (at block)) (C.EACH * (i + 1))) front, length-kept fits number (C.candidate (at block)) (C.EACH * (i + 1)));
    }
