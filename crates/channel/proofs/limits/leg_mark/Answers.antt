-- `limits::leg_mark` meets its contract: the mark at the owner's cell. Assumes nothing.
use Prim.Native.Nat.{◌%◌}
use native.Mathlib.Omega.{arith}
use Rattle.model.specs.Record.{job_of}
use Rattle.channel.specs.Map.Bounds.{owner-bound}
use Rattle.channel.specs.Map.LinkTests.{owner-mark}
use Rattle.channel.proofs.limits.leg_mark.Goals as goal

pub overflow_add-d : goal.overflow_add-d
overflow_add-d c = omega (arith, owner-bound (c.args.d % 64) (omega arith), c.owner_of.ensures)

pub returns : goal.returns
returns c =
    owner-mark (job_of c.args.job.now) c.args.d _ c.owner_of.ensures _ c.mark_at.ensures
