-- `places::north_even` meets its contract, from the bytes of the five links around n. Assumes nothing.
use Rattle.channel.specs.Map.{row_of, column_of}
use Rattle.cell.specs.Cell.Sums.{north-even}
use Rattle.cell.proofs.places.north_even.Goals as goal

pub returns : goal.returns
returns c = let s = c.args in cc (north-even s.rec.now (row_of s.x) (column_of s.x))
