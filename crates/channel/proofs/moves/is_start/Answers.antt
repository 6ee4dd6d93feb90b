-- `moves::is_start` meets its contract: the spot of a chosen pin. Assumes nothing.
use Rattle.model.specs.Record.{job_of}
use Rattle.channel.specs.Map.Laying.{not_start, start_is}
use Rattle.channel.proofs.moves.is_start.Goals as goal

pub returns-then-u-ne1 : goal.returns-then-u-ne1
returns-then-u-ne1 c = let s = c.args in not_start (job_of s.job.now) s.u c.if-u-ne1.true

pub returns : goal.returns
returns c =
    let s = c.args in start_is (job_of s.job.now) s.u _ c.if-u-ne1.false c.chosen_at.ensures
