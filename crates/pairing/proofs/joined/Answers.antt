-- `pairing::joined` meets its contract: the ends laid have the kinds of the sequence, so that the pairs joined are the rounds', and the partner's end says its lane. Assumes nothing.
use mathlib.Core.Path.{refl}
use borrow.Author.Rules.{rules}
use Rattle.pairing.specs.Answer.{lanes}
use Rattle.pairing.specs.Sequence.{blank}
use Rattle.pairing.specs.Struck.{partner-joined, end-joined}
use Rattle.pairing.proofs.joined.Goals as goal

pub lay-n-requires : goal.lay-n-requires
lay-n-requires c = (λ p. blank 155 p, search rules, search rules)

pub returns : goal.returns
returns c =
    let a = c.args in
    let l = c.lay-n.new.ends in
    end-joined (lanes a.around.now.arrive) (lanes a.around.now.depart) a.p c.lay-n.result c.other_end.result _ _
    l c.requires.0 c.lay-n.ensures.value c.lay-n.ensures.laid
    (partner-joined (lanes a.around.now.arrive) (lanes a.around.now.depart) c.lay-n.result _ c.other_end.result _ l _
    c.lay-n.ensures.value c.lay-n.ensures.laid c.join_all-m.ensures.pairs_after refl c.other_end.ensures)
    c.lane_at.ensures.0 c.lane_at.ensures.1
