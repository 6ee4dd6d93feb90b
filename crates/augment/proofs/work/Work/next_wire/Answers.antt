-- `next_wire` meets its contract: the lines from the last one on have no pin with a way out, and then those before it have none. Assumes nothing.
use mathlib.Core.Path.{refl}
use native.Mathlib.Omega.{arith}
use Rattle.model.specs.Record.{job_of}
use Rattle.augment.specs.Passing.{answered-all, held-still, dead-still}
use Rattle.augment.specs.Work.{same-then}
use Rattle.augment.proofs.work.Work.next_wire.Goals as goal

pub lines_wire-requires-2 : goal.lines_wire-requires-2
lines_wire-requires-2 c =
    let p = c.requires in
    let (q, s) = rw c.in_default.is at c.lines_wire.ensures.answered in
    record {
      lent = c.lines_wire.ensures.lent;
      held = held-still q p.held;
      dead = dead-still q _ s.dead;
      lines = (omega arith, omega (arith, c.last_line-a.ensures, c.rows-n.ensures.0));
    }

pub returns-clause-same : goal.returns-clause-same
returns-clause-same c = same-then c.lines_wire.ensures.same c.lines_wire-2.ensures.same

pub returns-clause-answered : goal.returns-clause-answered
returns-clause-answered c =
    answered-all (job_of c.args.job.now) _ _ _ _ _ c.lines_wire-2.new.self.marks.now c.lines_wire-2.result c.rows-n.ensures.0 refl
    (rw c.in_default.is at c.lines_wire.ensures.answered) c.lines_wire-2.ensures.answered
