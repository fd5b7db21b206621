use Rattle.algebra.proofs.Blocks.{block_none}
use Rattle.algebra.proofs.Words.{words_below, words_more}
use Rattle.ring.proofs.layer.block.Goals as goal

pub loop-d-init : goal.loop-d-init
loop-d-init g c = block_none _ _ c.args.start c.args.len _ c.requires.poly.0

pub turn-x-requires : goal.turn-x-requires
turn-x-requires g c = (
  c.requires.factor,
  words_below g.F.Word.value _ _ c.args.start c.args.len c.loop-d.d c.args.f.now c.loop-d.f c.loop-d.invariant c.loop-d-test.true c.requires.fits _ g.met.F.Modular.positive c.requires.poly _ _,
)

pub loop-d-preserved : goal.loop-d-preserved
loop-d-preserved g c =
    words_more g.F.Word.value _ _ c.args.start c.args.len c.loop-d.d c.args.f.now c.loop-d.f c.loop-d.invariant c.loop-d-test.true c.requires.fits _ _
    c.turn-x.result.0 c.turn-x.result.1 c.turn-x.ensures.low c.turn-x.ensures.high
