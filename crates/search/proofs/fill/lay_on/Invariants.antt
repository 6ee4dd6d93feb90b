-- What each turn of `fill::lay_on` keeps. Assumes nothing.
use mathlib.Core.Bool.{false}
use Rattle.model.specs.Record.{job_of}
use Rattle.augment.specs.Work.{SameLent, LentTo}
use Rattle.search.specs.Fill.{Filling, left}
use Rattle.search.proofs.fill.lay_on.Given as goal

abbrev pub invariant-loop : goal.invariant-loop
invariant-loop l = record {
  same : SameLent l.initial.work l.work;
  lent : LentTo l.job l.loads l.work;
  filling : Filling (job_of l.job) l.initial.loads l.loads l.work.marks.now false;
}

abbrev pub decreases-loop : goal.decreases-loop
decreases-loop l = left (job_of l.job) l.loads false
