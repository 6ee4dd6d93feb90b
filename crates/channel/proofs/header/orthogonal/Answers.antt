-- `header::orthogonal` meets its contract: byte 2 of the record. Assumes nothing.
use Rattle.model.specs.Record.{job_of}
use Rattle.channel.proofs.header.orthogonal.Goals as goal

pub returns : goal.returns
unfolding job_of
returns c = c.wide.ensures
