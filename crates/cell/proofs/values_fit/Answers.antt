-- `values_fit` meets its contract, from the mark, the state and the maps. Assumes nothing.
use native.Mathlib.Omega.{arith}
use Rattle.channel.specs.Map.{row_of, column_of}
use Rattle.model.specs.Job.{is_pin, is_tile}
use Rattle.model.specs.Record.{job_of}
use Rattle.cell.specs.Cell.Grid.{map_read}
use Rattle.cell.specs.Cell.Values.{values-read}
use Rattle.cell.proofs.values_fit.Goals as goal

pub returns : goal.returns
returns c =
    let x = c.args.x in
    let J = job_of c.args.rec.now in
    values-read c.args.rec.now (row_of x) (column_of x) _ _ _ _ _ _ c.byte.ensures c.byte-2.ensures
    (map_read (is_pin J) _ c.requires.3 x (omega arith) (omega arith)) (map_read (is_tile J) _ c.requires.4.map x (omega arith) (omega arith))
    c.held.ensures.0 c.held-2.ensures.0
