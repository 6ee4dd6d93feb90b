-- `moves::is_stored` meets its contract: a bit for each code. Assumes nothing.
use Rattle.channel.specs.Map.Bytes.{mask-stored}
use Rattle.channel.proofs.moves.is_stored.Goals as goal

pub returns : goal.returns
returns c = mask-stored c.args.c c.requires
