-- `places::south_even` meets its contract, from the bytes of the five links around s. Assumes nothing.
use native.Mathlib.Omega.{arith}
use Rattle.channel.specs.Map.{row_of, column_of}
use Rattle.cell.specs.Cell.Grid.{corner-cell, south-cell}
use Rattle.cell.specs.Cell.Sums.{south-even}
use Rattle.cell.proofs.places.south_even.Goals as goal

pub returns : goal.returns
returns c j k =
    let s = c.args in
    cc (south-even s.rec.now (row_of s.x) (column_of s.x), south-cell s.rec.now 2 s.x (omega arith) (omega arith) j, corner-cell s.rec.now 15 s.x (omega arith) (omega arith) j k)
