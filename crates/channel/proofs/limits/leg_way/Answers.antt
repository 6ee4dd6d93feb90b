-- `limits::leg_way` meets its contract: off the grid no leg leads anywhere, and on it the leg decides. Assumes nothing.
use Prim.Native.Nat.{◌%◌}
use native.Mathlib.Omega.{arith}
use Rattle.model.specs.Record.{job_of}
use Rattle.channel.specs.Map.Bounds.{owner-bound}
use Rattle.channel.specs.Map.LinkTests.{reach-low, reach-high, reach-in}
use Rattle.channel.proofs.limits.leg_way.Goals as goal

pub overflow_add-o : goal.overflow_add-o
overflow_add-o c = omega (arith, owner-bound (c.args.d % 64) (omega arith), c.owner_of.ensures)

pub returns-then-o-lt41 : goal.returns-then-o-lt41
returns-then-o-lt41 c =
    reach-low (job_of c.args.job.now) c.args.d _ c.owner_of.ensures c.if-o-lt41.true

pub returns-then-o-ge1641 : goal.returns-then-o-ge1641
returns-then-o-ge1641 c =
    reach-high (job_of c.args.job.now) c.args.d _ c.owner_of.ensures c.if-o-ge1641.true

pub returns : goal.returns
returns c =
    reach-in (job_of c.args.job.now) c.args.d _ c.owner_of.ensures _ c.kind_of.ensures
    (omega arith) (omega arith) _ c.leg_open.ensures
