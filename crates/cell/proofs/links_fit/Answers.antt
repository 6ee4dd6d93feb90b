-- `links_fit` meets its contract, part by part. Assumes nothing.
use Rattle.channel.specs.Map.{row_of, column_of}
use Rattle.cell.specs.Cell.Rooms.{links-are}
use Rattle.cell.proofs.links_fit.Goals as goal

pub returns : goal.returns
returns c = let s = c.args in cc (links-are s.rec.now (row_of s.x) (column_of s.x))
