-- `own_fits` meets its contract, from the byte of the own D, O, D and the map of the tiles. Assumes nothing.
use mathlib.Core.Path.{refl}
use native.Mathlib.Omega.{arith}
use Rattle.model.specs.Job.{is_tile}
use Rattle.model.specs.Record.{job_of}
use Rattle.channel.specs.Map.{row_of, column_of}
use Rattle.cell.specs.Cell.Grid.{map_read}
use Rattle.cell.specs.Cell.Own.{own_read}
use Rattle.cell.proofs.own_fits.Goals as goal

pub returns : goal.returns
returns c =
    let rec = c.args.rec.now in
    let x = c.args.x in
    own_read rec (row_of x) (column_of x) _ _ _ _ _ _ c.byte-own.ensures (map_read (is_tile (job_of rec)) _ c.requires.in_bounds.3.map x (omega arith) (omega arith))
    c.orthogonal-least.ensures.0 c.orthogonal.ensures.0 refl c.diagonal.ensures.0
