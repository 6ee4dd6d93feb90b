-- `header::in_grid` meets its contract. Assumes nothing.
use Rattle.channel.specs.Map.Grid.{grid-is}
use Rattle.channel.proofs.header.in_grid.Goals as goal

pub returns : goal.returns
returns c = grid-is c.args.x
