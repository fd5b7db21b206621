use Rattle.std.proofs.Common.{◌≡◌, ◌+◌, ◌++◌, length, take, sym, ap, ◌∙◌, ap₂, arith}
use Rattle.std.proofs.lemmas.List.{length-take-le, drop-set-lt, length-set, take-append-drop}
use Rattle.standards.specs.MlDsaParts.{places}
use Rattle.mldsa_hints.proofs.PlacesOut.{place_room, place_put, place_skip, row_last, drop-later}
use Rattle.mldsa_hints.proofs.pack_row.Goals as goal
use Rattle.mldsa_hints.proofs.pack_row.Goals.{then-b-ne0, else-b-ne0}

pub bounds-out-n : goal.bounds-out-n
bounds-out-n c = place_room c.args.row.now c.loop-i.out c.loop-i.i c.loop-i.n _ (omega arith) c.loop-i.invariant.within c.if-b-ne0.true c.loop-i.invariant.written (omega arith)

pub loop-i-preserved : goal.loop-i-preserved
loop-i-preserved c =
    let row = c.args.row.now in
    let out = c.loop-i.out in
    let i = c.loop-i.i in
    let n = c.loop-i.n in
    elim c.if-b-ne0.branch [
      | then-b-ne0 w ↦
          let room = place_room row out i n _ (omega arith) c.loop-i.invariant.within w.if-b-ne0.true c.loop-i.invariant.written (omega arith) in
          rw (w.n-is, w.out-is) record {
            within = simp length-set (omega arith);
            behind = drop-set-lt (n + 1) out n _ (omega arith) ∙ drop-later n (n + 1) _ _ (omega arith) c.loop-i.invariant.behind;
            written = place_put row out i n _ (omega arith) room w.if-b-ne0.true c.loop-i.invariant.written;
          }
      | else-b-ne0 w ↦
          rw (w.n-is, w.out-is) record {
            within = c.loop-i.invariant.within;
            behind = c.loop-i.invariant.behind;
            written = place_skip row out i n _ (omega arith) w.if-b-ne0.false c.loop-i.invariant.written;
          }
    ]

pub returns : goal.returns
returns c =
    let out = c.loop-i.out in
    let n = c.loop-i.n in
    let all : take n out ≡ places 0 c.args.row.now = row_last c.args.row.now out c.loop-i.i n _ (omega arith) c.loop-i.invariant.written in
    record {
      count = sym (length-take-le n out c.loop-i.invariant.within) ∙ ap length all;
      value = sym (take-append-drop n out) ∙ ap₂ (λ a b. a ++ b) all c.loop-i.invariant.behind;
    }
