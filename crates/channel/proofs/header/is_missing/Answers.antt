-- `header::is_missing` meets its contract, from its two parts. Assumes nothing.
use Rattle.model.specs.Job.{is_missing}
use Rattle.channel.proofs.header.is_missing.Goals as goal

pub returns : goal.returns
unfolding is_missing
returns c = cc
