-- `places::west_even` meets its contract, from the bytes of the five links around w. Assumes nothing.
use native.Mathlib.Omega.{arith}
use Rattle.channel.specs.Map.{row_of, column_of}
use Rattle.cell.specs.Cell.Grid.{south-cell}
use Rattle.cell.specs.Cell.Sums.{west-even}
use Rattle.cell.proofs.places.west_even.Goals as goal

pub returns : goal.returns
returns c j =
    let s = c.args in
    cc (west-even s.rec.now (row_of s.x) (column_of s.x), south-cell s.rec.now 12 s.x (omega arith) (omega arith) j)
