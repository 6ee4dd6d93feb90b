-- `places::centre` meets its contract: the sums over the four spokes. Assumes nothing.
use mathlib.Core.Path.{◌∙◌}
use native.Mathlib.Omega.{arith}
use Rattle.channel.specs.Map.Bytes.{centre-arrivals, centre-departures}
use Rattle.cell.specs.Cell.Sums.{centre-read}
use Rattle.cell.proofs.places.centre.Goals as goal

pub returns : goal.returns
returns c =
    let s = c.args in
    centre-read s.rec.now s.x (omega arith) (omega arith) _ c.open_at.ensures _ _ _
    (c.back_sum-come.ensures.0 ∙ centre-arrivals s.rec.now s.x (omega arith) (omega arith))
    (c.forth_sum.ensures.0 ∙ centre-departures s.rec.now s.x (omega arith) (omega arith)) c.centre_room.ensures
