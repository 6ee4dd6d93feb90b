-- `links::side_room` meets its contract: what a side takes is small. Assumes nothing.
use native.Mathlib.Omega.{arith}
use Rattle.model.specs.Record.{job_of}
use Rattle.channel.specs.Map.{row_of, column_of}
use Rattle.channel.specs.Laid.{side-least}
use Rattle.cell.specs.Cell.Tests.{caps-range}
use Rattle.cell.proofs.links.side_room.Goals as goal

pub returns : goal.returns
returns c =
    let J = job_of c.args.rec.now in
    let (a, _) = caps-range J.O J.D J.E c.requires.4 in
    (c.side_most.ensures.0, omega (arith, c.side_most.ensures.0, side-least J c.args.k (row_of c.args.x) (column_of c.args.x) c.requires.1))
