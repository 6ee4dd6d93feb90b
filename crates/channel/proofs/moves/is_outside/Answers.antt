-- `moves::is_outside` meets its contract: n, e, s or w of a cell that is no tile, or the entry of one that has no missing pin. Assumes nothing.
use Rattle.model.specs.Record.{job_of}
use Rattle.channel.specs.Map.Laying.{entry-outside, not-outside, outside-is}
use Rattle.channel.proofs.moves.is_outside.Goals as goal

pub returns-then-k-eq0 : goal.returns-then-k-eq0
returns-then-k-eq0 c =
    let s = c.args in entry-outside (job_of s.job.now) s.u _ c.if-k-eq0.true c.missing_at.ensures

pub returns-then-k : goal.returns-then-k
returns-then-k c = let s = c.args in not-outside (job_of s.job.now) s.u c.if-k-eq0.false c.if-k.true

pub returns : goal.returns
returns c =
    let s = c.args in outside-is (job_of s.job.now) s.u _ c.if-k.false c.tile_at.ensures
