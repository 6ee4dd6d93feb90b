-- `places::tile_even` meets its contract: only of an open tile are the four places asked. Assumes nothing.
use native.Mathlib.Omega.{arith}
use Rattle.cell.specs.Cell.Sums.{tile-read}
use Rattle.cell.proofs.places.tile_even.Goals as goal

pub returns : goal.returns
returns c =
    tile-read c.args.rec.now c.args.x (omega arith) (omega arith) c.requires.3.array _ c.open_at.ensures _ _ _ _ c.north_even.ensures
    c.east_even.ensures c.south_even.ensures c.west_even.ensures
