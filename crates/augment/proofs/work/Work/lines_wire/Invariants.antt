-- What each turn of `lines_wire` keeps. Assumes nothing.
use mathlib.Core.Path.{◌≡◌}
use Rattle.model.specs.Record.{job_of}
use Rattle.augment.specs.Pins.{InRows, Passed}
use Rattle.augment.specs.Work.{SameLent, LentTo}
use Rattle.augment.proofs.work.Work.lines_wire.Given as goal

abbrev pub invariant-loop-i : goal.invariant-loop-i
invariant-loop-i l = record {
  same : SameLent l.initial.self l.self;
  lent : LentTo l.job l.loads l.self;
  loads : l.loads ≡ l.initial.loads;
  passed : Passed (job_of l.job) (InRows (job_of l.job) l.a l.i) l.initial.loads l.initial.self.marks.now l.self.marks.now;
}
