-- `pairing::partner` meets its contract: what is joined with an arriving lane is its partner. Assumes nothing.
use native.Mathlib.Omega.{arith}
use Rattle.pairing.specs.Answer.{lanes}
use Rattle.pairing.specs.Slots.{start-later}
use Rattle.pairing.specs.Struck.{arrival-joined}
use Rattle.pairing.proofs.partner.Goals as goal

pub joined-requires : goal.joined-requires
joined-requires c =
    let a = c.args in
    let w = start-later (lanes a.around.now.arrive) (lanes a.around.now.depart) a.lane.slot 5 c.requires.0 in
    (omega (arith, w, c.requires.1, c.lanes_at.ensures.0, c.start_of.ensures.0), c.requires.2)

pub returns : goal.returns
returns c =
    let a = c.args in
    λ even. arrival-joined (lanes a.around.now.arrive) (lanes a.around.now.depart) a.lane.slot a.lane.lane c.requires.0 even _ _ _
    (omega (arith, c.lanes_at.ensures.0, c.start_of.ensures.0)) c.requires.1 (c.joined.ensures even)
