-- `header::is_tile` meets its contract. Beyond 254 is no tile, since rows and columns are bytes. Assumes nothing.
use native.Mathlib.Omega.{arith}
use lib.ListN.{get_or}
use Rattle.model.specs.Record.{job_of}
use Rattle.channel.specs.Map.Grid.{no_row, no-column}
use Rattle.channel.proofs.header.is_tile.Goals as goal

pub returns-then-r-ge255 : goal.returns-then-r-ge255
unfolding job_of
returns-then-r-ge255 c =
    no_row c.args.r (get_or c.args.rec.now 0 0) _ (omega (arith, c.shared_slice_known-1.given 0))

pub returns-then-c-ge255 : goal.returns-then-c-ge255
unfolding job_of
returns-then-c-ge255 c =
    no-column c.args.r (get_or c.args.rec.now 0 0) c.args.c (get_or c.args.rec.now 1 0)
    (omega (arith, c.shared_slice_known-1.given 1))
