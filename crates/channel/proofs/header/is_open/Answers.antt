-- `header::is_open` meets its contract, from its two parts. Assumes nothing.
use Rattle.model.specs.Job.{is_open}
use Rattle.channel.proofs.header.is_open.Goals as goal

pub returns : goal.returns
unfolding is_open
returns c = cc
