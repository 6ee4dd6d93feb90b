-- `links::direct` meets its contract: the room of a direct exit, from whether a wire may leave. Assumes nothing.
use native.Mathlib.Omega.{arith}
use Rattle.channel.specs.Map.{row_of, column_of}
use Rattle.cell.specs.Cell.Grid.{direct-read}
use Rattle.cell.specs.Cell.Rooms.{direct_is}
use Rattle.cell.proofs.links.direct.Goals as goal

pub returns : goal.returns
returns c =
    let x = c.args.x in
    direct_is c.args.rec.now (row_of x) (column_of x) _ (cc (direct-read c.args.rec.now _ _ c.requires.3 c.requires.4 x (omega arith) (omega arith)))
