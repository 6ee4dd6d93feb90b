-- `grid::clear_at` meets its contract: what is no tile, or has the state 0, is an open tile or no tile. Assumes nothing.
use Rattle.cell.specs.Cell.Grid.{clear-read}
use Rattle.cell.proofs.grid.clear_at.Goals as goal

pub returns : goal.returns
returns c =
    cc (clear-read c.args.rec.now _ c.requires.2 c.args.x c.requires.1)
