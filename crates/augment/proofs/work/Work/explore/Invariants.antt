-- What each turn of `explore` keeps. Assumes nothing.
use Prim.Native.Nat.{◌-◌, ◌≤◌}
use lib.ListN.{length}
use Rattle.model.specs.Record.{job_of}
use Rattle.channel.specs.Map.{spots}
use Rattle.augment.specs.Work.{SameLent, FrontAt}
use Rattle.augment.proofs.work.Work.explore.Given as goal

abbrev pub invariant-loop-h : goal.invariant-loop-h
invariant-loop-h l = record {
  same : SameLent l.fn.self l.self;
  lists : 26513 ≤ length l.self.lists.now;
  front : FrontAt (job_of l.job) l.loads l.start l.fn.self.marks.now l.self l.h l.n;
}

abbrev pub decreases-loop-h : goal.decreases-loop-h
decreases-loop-h l = spots - l.h
