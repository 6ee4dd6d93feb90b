-- `table::sign_of` meets its contract: the sign is one bit. Assumes nothing.
use Rattle.channel.specs.Map.Packed.{packed-sign}
use Rattle.channel.proofs.table.sign_of.Goals as goal

pub returns : goal.returns
returns c = packed-sign c.args.i c.requires
