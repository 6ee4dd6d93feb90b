-- `limits::may_leave` meets its contract, from the mark and the header's rows and columns. Assumes nothing.
use Rattle.model.specs.Record.{job_of}
use Rattle.channel.specs.Map.Ways.{direct-rim}
use Rattle.channel.proofs.limits.may_leave.Goals as goal

pub returns : goal.returns
returns c =
    let s = c.args in
    direct-rim (job_of s.job.now) s.r s.c _ _ _ c.is_chosen.ensures c.rows.ensures.0 c.columns.ensures.0
