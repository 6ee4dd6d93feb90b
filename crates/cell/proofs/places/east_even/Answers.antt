-- `places::east_even` meets its contract, from the bytes of the five links around e. Assumes nothing.
use native.Mathlib.Omega.{arith}
use Rattle.channel.specs.Map.{row_of, column_of}
use Rattle.cell.specs.Cell.Grid.{east-cell}
use Rattle.cell.specs.Cell.Sums.{east-even}
use Rattle.cell.proofs.places.east_even.Goals as goal

pub returns : goal.returns
returns c k =
    let s = c.args in
    cc (east-even s.rec.now (row_of s.x) (column_of s.x), east-cell s.rec.now 3 s.x (omega arith) (omega arith) k, east-cell s.rec.now 14 s.x (omega arith) (omega arith) k)
