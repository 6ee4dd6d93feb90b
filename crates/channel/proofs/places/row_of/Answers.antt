-- `places::row_of` meets its contract. Assumes nothing.
use Rattle.channel.specs.Map.Entered.{row_is}
use Rattle.channel.proofs.places.row_of.Goals as goal

pub returns : goal.returns
returns c = row_is c.args.x
