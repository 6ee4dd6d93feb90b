-- `grid::byte` meets its contract: the byte of a cell stands at its place. Assumes nothing.
use Rattle.cell.specs.Cell.Grid.{own-cell}
use native.Mathlib.Omega.{arith}
use Rattle.cell.proofs.grid.byte.Goals as goal

pub returns : goal.returns
returns c =
    own-cell c.args.rec.now c.args.p c.args.x (omega arith) (omega arith)
