-- `header::mark_at` meets its contract: the byte of the plane of marks. Assumes nothing.
use mathlib.Core.Path.{◌∙◌}
use native.Mathlib.Omega.{arith}
use Rattle.model.specs.Record.{job_of}
use Rattle.channel.specs.Map.Grid.{no-byte-at, no-byte-over, byte_at}
use Rattle.channel.proofs.header.mark_at.Goals as goal

pub returns-then-x-lt41 : goal.returns-then-x-lt41
returns-then-x-lt41 c = no-byte-at c.args.x _ (omega arith)

pub returns-then-x-ge1641 : goal.returns-then-x-ge1641
returns-then-x-ge1641 c = no-byte-over c.args.x _ (omega arith)

pub returns : goal.returns
unfolding job_of
returns c =
    c.wide.ensures.0 ∙ byte_at c.args.rec.now 0 c.args.x (omega arith) (omega arith)
