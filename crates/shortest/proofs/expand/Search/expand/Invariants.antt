-- What each turn of `expand` keeps. Assumes nothing.
use Prim.Native.Nat.{◌-◌}
use lib.ListN.{get_or}
use Rattle.model.specs.Record.{job_of}
use Rattle.augment.specs.Slots.{Rest}
use Rattle.shortest.specs.Growing.{Taken, Since}
use Rattle.shortest.specs.Search.{SameLent}
use Rattle.shortest.proofs.expand.Search.expand.Given as goal

abbrev pub invariant-loop-left : goal.invariant-loop-left
invariant-loop-left l = record {
  lent : SameLent l.fn.self l.self;
  taken : Taken (job_of l.job) l.loads l.prices (get_or l.initial.self.queue.now 0 0) l.self.marks.now l.self.queue.now l.self.parent.now l.self.slot.now l.self.stack.now
      l.self.rim.now l.self.growth l.i l.u l.k l.m (l.initial.self.growth.n - l.top);
  since : Since l.initial.self.marks.now l.self.marks.now;
  rest : Rest l.initial.left l.k l.left;
}

abbrev pub decreases-loop-left : goal.decreases-loop-left
decreases-loop-left l = 8 - l.k
