use Rattle.std.proofs.Common.{◌+◌, take, ap, arith}
use Rattle.files.specs.Texts.{most_text}
use Rattle.files.proofs.Inputs.{enough, ended}
use Rattle.files.proofs.input.read.Goals as goal
use Rattle.files.proofs.input.read.Goals.{else-loop-block-test, then-loop-block-test+in-Ok-eq0}

pub returns : goal.returns
returns g c =
    let all = g.R.Read.remaining c.args.input in
    let rest = g.R.Read.remaining c.loop-block.input in
    let text = c.loop-block.text.items in
    let cut = c.truncate.ensures in
    elim c.loop-block-test.branch [
      | else-loop-block-test w ↦ enough (most_text + 1) all rest text cut.by_index (omega arith) cut.items c.loop-block.invariant (omega (arith, w.loop-block-test.false))
      | then-loop-block-test+in-Ok-eq0 w ↦
          let none = w.in-Ok-eq0.field-0-test in
          let bytes = w.in-Ok-eq0.ensures.bytes in
          ended (most_text + 1) all rest (g.R.Read.remaining w.read.new.self) text _ cut.by_index (omega arith) cut.items c.loop-block.invariant bytes.0 (ap (λ n. take n w.read.new.buf) none) (bytes.1 none (omega (arith, w.read.auto.buf)))
    ]
