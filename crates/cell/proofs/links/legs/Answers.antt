-- `links::legs` meets its contract: the room of a leg, from the pin's mark and the tile that it leads into. Assumes nothing.
use native.Mathlib.Omega.{arith}
use Rattle.model.specs.Record.{job_of}
use Rattle.channel.specs.Map.{row_of, column_of}
use Rattle.cell.specs.Cell.Grid.{north-leads, east-leads, south-leads, west-leads}
use Rattle.cell.specs.Cell.Rooms.{legs-read}
use Rattle.cell.proofs.links.legs.Goals as goal

pub returns : goal.returns
returns c =
    let J = job_of c.args.rec.now in
    let x = c.args.x in
    let fits = c.requires.3.array in
    legs-read c.args.rec.now (row_of x) (column_of x) _ _ _ _ _ _ _ _ _ _ _ _ _ _ _ c.byte-mark.ensures c.leaves-away.ensures c.held-back.ensures.0
    c.byte.ensures (north-leads J fits x (omega arith) (omega arith)) c.leg_fits-n.ensures
    c.byte-2.ensures (east-leads J fits x (omega arith) (omega arith)) c.leg_fits-e.ensures
    c.byte-3.ensures (south-leads J fits x (omega arith) (omega arith)) c.leg_fits-s.ensures
    c.byte-4.ensures (west-leads J fits x (omega arith) (omega arith)) c.leg_fits-w.ensures
