-- `places::pins` meets its contract: the sums over the legs and the direct exit. Assumes nothing.
use mathlib.Core.Path.{ap, ap₂, ◌∙◌}
use Prim.Native.Nat.{◌+◌}
use native.Mathlib.Omega.{arith}
use Rattle.model.specs.Job.{is_pin}
use Rattle.model.specs.Record.{job_of, forth_part}
use Rattle.channel.specs.Map.{row_of, column_of}
use Rattle.channel.specs.Map.Bytes.{missing-arrivals, missing-departures, pin-departures}
use Rattle.cell.specs.Cell.Grid.{map_read}
use Rattle.cell.specs.Cell.Sums.{pins-read}
use Rattle.cell.proofs.places.pins.Goals as goal

pub returns : goal.returns
returns c =
    let bytes = c.args.rec.now in
    let x = c.args.x in
    let legs = c.forth_sum-leave.ensures.0 in
    let straight = c.forth.ensures.0 ∙ ap forth_part c.near.ensures in
    cc (pins-read bytes (row_of x) (column_of x) _ _ _ _ _ _ (map_read (is_pin (job_of bytes)) _ c.requires.3 x (omega arith) (omega arith)) c.byte-mark.ensures
    (c.back_sum-come.ensures.0 ∙ missing-arrivals bytes x (omega arith) (omega arith)) (legs ∙ missing-departures bytes x (omega arith) (omega arith))
    (ap₂ ◌+◌ legs straight ∙ pin-departures bytes x (omega arith) (omega arith)) c.missing_most.ensures.0)
