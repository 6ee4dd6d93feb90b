-- `header::columns` meets its contract: byte 1 of the record. Assumes nothing.
use Rattle.model.specs.Record.{job_of}
use Rattle.channel.proofs.header.columns.Goals as goal

pub returns : goal.returns
unfolding job_of
returns c = c.wide.ensures
