-- What each turn of `expand` keeps. Assumes nothing.
use Prim.Native.Nat.{◌-◌}
use mathlib.Core.Path.{◌≡◌}
use Rattle.model.specs.Record.{job_of}
use Rattle.augment.specs.Slots.{Rest}
use Rattle.augment.specs.Work.{SameLent, GrownAt}
use Rattle.augment.proofs.work.Work.expand.Given as goal

abbrev pub invariant-loop-left : goal.invariant-loop-left
invariant-loop-left l = record {
  lent : SameLent l.initial.self l.self;
  lists : l.self.lists.now ≡ l.initial.self.lists.now;
  grown : GrownAt (job_of l.job) l.loads l.u l.k l.h l.n l.initial.self l.self l.m;
  rest : Rest l.initial.left l.k l.left;
}

abbrev pub decreases-loop-left : goal.decreases-loop-left
decreases-loop-left l = 8 - l.k
