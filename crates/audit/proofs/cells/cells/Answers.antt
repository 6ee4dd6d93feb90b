-- `cells::cells` meets its contract. The loop's invariant: what was found says whether every cell passed is in order. The measure is the cells that are left. Assumes nothing.
use native.Mathlib.Omega.{arith}
use Rattle.audit.specs.Laws.{array-fits, cells-decided}
use Rattle.audit.proofs.cells.cells.Goals as goal

pub tiles_of-tile-requires : goal.tiles_of-tile-requires
tiles_of-tile-requires c = let s = c.requires in (s.0, array-fits _ s.1)

pub returns : goal.returns
returns c =
    let l = c.loop-x in
    cells-decided _ l.x _ (omega arith) l.invariant.2
