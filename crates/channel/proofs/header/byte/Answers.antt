-- `header::byte` meets its contract: a cell of the grid has its byte in the plane. Assumes nothing.
use native.Mathlib.Omega.{arith}
use Rattle.channel.specs.Map.Grid.{cell-on}
use mathlib.Core.Path.{◌∙◌}
use Rattle.channel.proofs.header.byte.Goals as goal

pub returns : goal.returns
returns c =
    (c.wide.ensures.0 ∙ cell-on c.args.rec.now c.args.p c.args.r c.args.c (omega arith) (omega arith), c.wide.ensures.1)
