-- What each turn of `widen` keeps. Assumes nothing.
use Prim.Native.Nat.{◌-◌}
use mathlib.Core.Path.{◌≡◌}
use lib.ListN.{length, get_or}
use Rattle.price.specs.Priced.{Priced}
use Rattle.model.specs.Record.{job_of}
use Rattle.channel.specs.Map.{view}
use Rattle.channel.specs.Map.Lengths.{dart_length}
use Rattle.channel.specs.Map.Network.{net}
use Rattle.shortest.specs.Wiring.{price_at}
use Rattle.shortest.specs.Growing.{Lifted}
use Rattle.shortest.specs.Search.{SameLent, GrowingAt}
use Rattle.shortest.proofs.expand.Search.widen.Given as goal

abbrev pub invariant-loop-way : goal.invariant-loop-way
invariant-loop-way l = record {
  lent : SameLent l.initial.self l.self;
  prices : length l.prices ≡ length l.initial.prices;
  first : get_or l.self.queue.now 0 0 ≡ get_or l.initial.self.queue.now 0 0;
  growing : GrowingAt (job_of l.job) l.loads l.prices (get_or l.self.queue.now 0 0) l.self;
  priced : Priced (net (job_of l.job)) dart_length (view l.loads) (price_at l.prices);
  lifted : Lifted (get_or l.initial.self.queue.now 0 0) l.initial.prices l.prices;
}

abbrev pub decreases-loop-way : goal.decreases-loop-way
decreases-loop-way l = 1417825 - get_or l.prices (get_or l.initial.self.queue.now 0 0) 0
