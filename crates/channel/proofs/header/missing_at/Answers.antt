-- `header::missing_at` meets its contract, from the row and the column of the cell. Assumes nothing.
use native.Mathlib.Omega.{arith}
use Rattle.model.specs.Job.{is_missing}
use Rattle.model.specs.Record.{job_of}
use Rattle.channel.specs.Map.Grid.{none-at, test_at}
use Rattle.channel.proofs.header.missing_at.Goals as goal

pub returns-then-x-lt41 : goal.returns-then-x-lt41
returns-then-x-lt41 c = none-at c.args.x (is_missing (job_of c.args.rec.now)) (omega arith)

pub returns : goal.returns
returns c =
    test_at c.args.x (is_missing (job_of c.args.rec.now)) _ (omega arith) (omega arith) c.is_missing.ensures
