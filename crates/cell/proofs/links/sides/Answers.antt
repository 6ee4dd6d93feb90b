-- `links::sides` meets its contract: the room of a side, from where wires may go over it. Assumes nothing.
use native.Mathlib.Omega.{arith}
use Rattle.model.specs.Record.{job_of}
use Rattle.channel.specs.Map.{row_of, column_of}
use Rattle.cell.specs.Cell.Grid.{north-go, north-come, west-go, west-come}
use Rattle.cell.specs.Cell.Rooms.{sides-are}
use Rattle.cell.proofs.links.sides.Goals as goal

pub returns : goal.returns
returns c =
    let J = job_of c.args.rec.now in
    let x = c.args.x in
    let fits = c.requires.in_bounds.3.array in
    cc (
      sides-are c.args.rec.now (row_of x) (column_of x),
      north-go J fits x (omega arith) (omega arith),
      north-come J fits x (omega arith) (omega arith),
      west-go J fits x (omega arith) (omega arith),
      west-come J fits x (omega arith) (omega arith),
    )
