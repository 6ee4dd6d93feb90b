-- `links::four_fit` meets its contract, byte by byte. Assumes nothing.
use native.Mathlib.Omega.{arith}
use Rattle.cell.specs.Cell.Rooms.{four_are}
use Rattle.model.specs.Record.{job_of}
use Rattle.channel.specs.Map.{row_of, column_of}
use Rattle.cell.specs.Cell.Grid.{own_open}
use Rattle.cell.proofs.links.four_fit.Goals as goal

pub returns : goal.returns
returns c =
    let s = c.args in
    cc (four_are s.rec.now (row_of s.x) (column_of s.x) s.p s.most, own_open (job_of s.rec.now) s.x (omega arith) (omega arith))
