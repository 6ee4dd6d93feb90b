-- What each turn of `settle` keeps. Assumes nothing.
use Prim.Native.Nat.{◌-◌}
use mathlib.Core.Path.{◌≡◌}
use lib.ListN.{get_or}
use Rattle.model.specs.Record.{job_of}
use Rattle.channel.specs.Map.{spots}
use Rattle.shortest.specs.Search.{SameLent, GrowingAt}
use Rattle.shortest.proofs.expand.Search.settle.Given as goal

abbrev pub invariant-loop-self : goal.invariant-loop-self
invariant-loop-self l = record {
  lent : SameLent l.initial.self l.self;
  first : get_or l.self.queue.now 0 0 ≡ get_or l.initial.self.queue.now 0 0;
  growing : GrowingAt (job_of l.job) l.loads l.prices (get_or l.self.queue.now 0 0) l.self;
}

abbrev pub decreases-loop-self : goal.decreases-loop-self
decreases-loop-self l = spots - (l.self.growth.n - l.self.growth.top)
