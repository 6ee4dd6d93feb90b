-- `header::open_in` meets its contract: a tile whose byte in the plane of states is 0. Assumes nothing.
use native.Mathlib.Omega.{arith}
use Rattle.model.specs.Job.{is_open}
use Rattle.model.specs.Record.{job_of}
use Rattle.channel.specs.Map.Grid.{cell-on}
use Rattle.channel.proofs.header.open_in.Goals as goal

pub returns : goal.returns
unfolding is_open job_of
returns c =
    cc (c.tile_in.ensures, cell-on c.args.rec.now 1 c.args.r c.args.c (omega arith) (omega arith))
