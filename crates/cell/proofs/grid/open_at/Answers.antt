-- `grid::open_at` meets its contract: an open tile is a tile with the state 0. Assumes nothing.
use Rattle.cell.specs.Cell.Grid.{open-read}
use Rattle.cell.proofs.grid.open_at.Goals as goal

pub returns : goal.returns
returns c =
    cc (open-read c.args.rec.now _ c.requires.2 c.args.x c.requires.1)
