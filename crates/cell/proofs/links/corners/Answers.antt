-- `links::corners` meets its contract: the room of a corner is half the orthogonal limit. Assumes nothing.
use Rattle.channel.specs.Map.{row_of, column_of}
use Rattle.cell.specs.Cell.Rooms.{corners-are}
use Rattle.cell.proofs.links.corners.Goals as goal

pub returns : goal.returns
returns c = let s = c.args in cc (corners-are s.rec.now (row_of s.x) (column_of s.x))
