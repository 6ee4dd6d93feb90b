-- `places::column_of` meets its contract. Assumes nothing.
use Rattle.channel.specs.Map.Entered.{column-is}
use Rattle.channel.proofs.places.column_of.Goals as goal

pub returns : goal.returns
returns c = column-is c.args.x
