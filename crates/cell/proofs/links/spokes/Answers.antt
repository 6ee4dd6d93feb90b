-- `links::spokes` meets its contract: a spoke has no limit but that of a byte. Assumes nothing.
use Rattle.channel.specs.Map.{row_of, column_of}
use Rattle.cell.specs.Cell.Rooms.{spokes-are}
use Rattle.cell.proofs.links.spokes.Goals as goal

pub returns : goal.returns
returns c = let s = c.args in cc (spokes-are s.rec.now (row_of s.x) (column_of s.x))
