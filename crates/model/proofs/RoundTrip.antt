-- Document 01, demand 2: job text is read and written by its grammar, and each undoes the other. What is written for a proper job is read as that job,
-- and what is read is what is written for the job it gives. Assumes nothing.
use Rattle.model.specs.Text.{RoundTrip}
use Rattle.model.proofs.ReadsWritten.{reads-written}
use Rattle.model.proofs.WritesRead.{writes-read}

pub round_trip : RoundTrip
round_trip = record { reads-written = reads-written; writes-read = writes-read }
