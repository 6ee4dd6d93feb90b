-- `table::owner_of` meets its contract: the two bits say whether the owner stands one further, and one row further. Assumes nothing.
use Rattle.channel.specs.Map.Packed.{packed-owner}
use Rattle.channel.proofs.table.owner_of.Goals as goal

pub returns : goal.returns
returns c = packed-owner c.args.i c.requires
