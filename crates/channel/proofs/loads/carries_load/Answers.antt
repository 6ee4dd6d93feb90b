-- `loads::carries_load` meets its contract: a bit for each code. Assumes nothing.
use Rattle.channel.specs.Map.Bytes.{mask-carries}
use Rattle.channel.proofs.loads.carries_load.Goals as goal

pub returns : goal.returns
returns c = mask-carries c.args.c c.requires
