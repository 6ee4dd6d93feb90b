-- `header::is_chosen` meets its contract, from its two parts. Assumes nothing.
use Rattle.model.specs.Job.{is_chosen}
use Rattle.channel.proofs.header.is_chosen.Goals as goal

pub returns : goal.returns
unfolding is_chosen
returns c = cc
