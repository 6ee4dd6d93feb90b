-- `counts_fit` meets its contract, from the two counts, O and the map of the tiles. Assumes nothing.
use native.Mathlib.Omega.{arith}
use Rattle.channel.specs.Map.{row_of, column_of}
use Rattle.cell.specs.Cell.Grid.{north-read, west-read}
use Rattle.cell.specs.Cell.Counts.{counts-read}
use Rattle.cell.proofs.counts_fit.Goals as goal

pub returns : goal.returns
returns c =
    let x = c.args.x in
    let rec = c.args.rec.now in
    counts-read rec (row_of x) (column_of x) _ _ _ _ _ _ _ c.byte.ensures c.byte-2.ensures
    (north-read rec _ c.requires.3 x (omega arith) (omega arith)) (west-read rec _ c.requires.3 x (omega arith) (omega arith))
    c.orthogonal-most.ensures.0 c.held.ensures.0 c.held-2.ensures.0
