-- `header::diagonal` meets its contract: byte 3 of the record. Assumes nothing.
use Rattle.model.specs.Record.{job_of}
use Rattle.channel.proofs.header.diagonal.Goals as goal

pub returns : goal.returns
unfolding job_of
returns c = c.wide.ensures
