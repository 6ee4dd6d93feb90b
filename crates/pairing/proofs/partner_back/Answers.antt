-- `pairing::partner_back` meets its contract: what is joined with a departing lane is the one whose partner it is. Assumes nothing.
use native.Mathlib.Omega.{arith}
use Rattle.pairing.specs.Answer.{lanes}
use Rattle.pairing.specs.Slots.{start-later}
use Rattle.pairing.specs.Struck.{departure-joined}
use Rattle.pairing.proofs.partner_back.Goals as goal

pub overflow_add-lanes_at : goal.overflow_add-lanes_at
overflow_add-lanes_at c =
    let a = c.args in
    let w = start-later (lanes a.around.now.arrive) (lanes a.around.now.depart) a.lane.slot 5 c.requires.0 in
    omega (arith, w, c.requires.1, c.requires.2, c.lanes_at.ensures.0)

pub overflow_add-start_of : goal.overflow_add-start_of
overflow_add-start_of c =
    let a = c.args in
    let w = start-later (lanes a.around.now.arrive) (lanes a.around.now.depart) a.lane.slot 5 c.requires.0 in
    omega (arith, w, c.requires.1, c.requires.2, c.lanes_at.ensures.0, c.start_of.ensures.0)

pub joined-requires : goal.joined-requires
joined-requires c =
    let a = c.args in
    let w = start-later (lanes a.around.now.arrive) (lanes a.around.now.depart) a.lane.slot 5 c.requires.0 in
    (omega (arith, w, c.requires.1, c.lanes_at.ensures.0, c.start_of.ensures.0), c.requires.2)

pub returns : goal.returns
returns c =
    let a = c.args in
    λ even. departure-joined (lanes a.around.now.arrive) (lanes a.around.now.depart) a.lane.slot a.lane.lane c.requires.0 even _ _ _
    (omega (arith, c.lanes_at.ensures.0, c.start_of.ensures.0)) c.requires.1 (c.joined.ensures even)
