-- `links::has_room` meets its contract, from the two amounts. Assumes nothing.
use Rattle.cell.specs.Cell.Rooms.{fits-are}
use Rattle.cell.proofs.links.has_room.Goals as goal

pub returns : goal.returns
returns c = let s = c.args in cc (fits-are s.b s.forth s.back)
