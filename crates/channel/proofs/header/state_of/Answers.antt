-- `header::state_of` meets its contract: the byte of the plane of states. Assumes nothing.
use Rattle.model.specs.Record.{job_of}
use Rattle.channel.proofs.header.state_of.Goals as goal

pub returns : goal.returns
unfolding job_of
returns c = c.value_of.ensures
