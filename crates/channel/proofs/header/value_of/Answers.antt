-- `header::value_of` meets its contract: the byte of the plane, and 0 beyond row or column 39. Assumes nothing.
use native.Mathlib.Omega.{arith}
use Rattle.channel.specs.Map.Grid.{cell_below, cell-beside}
use Rattle.channel.proofs.header.value_of.Goals as goal

pub returns-then-r-ge40 : goal.returns-then-r-ge40
returns-then-r-ge40 c = let s = c.args in cell_below s.rec.now s.p _ _ (omega arith)

pub returns-then-c-ge40 : goal.returns-then-c-ge40
returns-then-c-ge40 c = let s = c.args in cell-beside s.rec.now s.p _ _ (omega arith) (omega arith)
