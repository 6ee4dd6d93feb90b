-- `lanes::by_word` meets its contract: by the byte that the word names, and by none where the word is 0. Assumes nothing.
use native.Mathlib.Omega.{arith}
use Rattle.wire.specs.Five.{word_none, word_lanes}
use Rattle.wire.proofs.lanes.by_word.Goals as goal

pub returns-then-w-eq0 : goal.returns-then-w-eq0
returns-then-w-eq0 c =
    λ d h q. word_none c.args.rec.now c.args.w c.requires.2 d q (omega arith)

pub returns : goal.returns
returns c =
    λ d h q.
    word_lanes c.args.rec.now c.args.w c.requires.2 d q c.args.x h (λ z. absurd (omega arith)) (omega arith) (omega arith) c.wide-b.result
    c.wide-b.ensures.0 _ _ c.one_way.ensures.0 c.one_way-2.ensures.0
