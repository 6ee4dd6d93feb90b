-- What each turn of `fill::fill` keeps. Assumes nothing.
use mathlib.Core.Bool.{true}
use Rattle.model.specs.Record.{job_of}
use Rattle.augment.specs.Work.{SameLent, LentTo}
use Rattle.search.specs.Fill.{Cleared, Filling, left}
use Rattle.search.proofs.fill.fill.Given as goal

abbrev pub invariant-loop-work : goal.invariant-loop-work
invariant-loop-work l = record {
  filling : Filling (job_of l.job) l.initial.loads l.loads l.work.marks.now true;
  cleared : Cleared l.work.marks.now;
  same : SameLent l.initial.work l.work;
  lent : LentTo l.job l.loads l.work;
}

abbrev pub decreases-loop-work : goal.decreases-loop-work
decreases-loop-work l = left (job_of l.job) l.loads true
