-- `limits::direct_limit` meets its contract: 1 out of a chosen pin on the rim, and none against it. Assumes nothing.
use mathlib.Core.Path.{sym, ◌∙◌}
use native.Mathlib.Omega.{arith}
use Rattle.model.specs.Record.{job_of}
use Rattle.channel.specs.Map.Caps.{cap-out, cap-off, cap-against}
use Rattle.channel.proofs.limits.direct_limit.Goals as goal

pub returns-then-d-ne12 : goal.returns-then-d-ne12
returns-then-d-ne12 c = let s = c in cap-against (job_of s.args.job.now) s.args.d s.requires.2 c.if-d-ne12.true

pub returns-then-x-lt41 : goal.returns-then-x-lt41
returns-then-x-lt41 c = let s = c in cap-off (job_of s.args.job.now) s.args.d c.if-d-ne12.false c.if-x-lt41.true

pub returns-then-may_leave : goal.returns-then-may_leave
returns-then-may_leave c =
    cap-out (job_of c.args.job.now) c.args.d c.if-d-ne12.false c.if-x-lt41.false (omega arith) _
    (sym c.if-may_leave.true ∙ c.may_leave.ensures)

pub returns : goal.returns
returns c =
    cap-out (job_of c.args.job.now) c.args.d c.if-d-ne12.false c.if-x-lt41.false (omega arith) _
    (sym c.if-may_leave.false ∙ c.may_leave.ensures)
