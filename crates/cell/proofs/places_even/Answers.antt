-- `places_even` meets its contract, part by part. Assumes nothing.
use Rattle.channel.specs.Map.{row_of, column_of}
use Rattle.cell.specs.Cell.Sums.{places-are}
use Rattle.cell.proofs.places_even.Goals as goal

pub returns : goal.returns
returns c = let s = c.args in cc (places-are s.rec.now (row_of s.x) (column_of s.x))
