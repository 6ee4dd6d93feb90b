-- What each turn of `raise` keeps. Assumes nothing.
use mathlib.Core.Path.{◌≡◌}
use lib.ListN.{length}
use Rattle.shortest.specs.Growing.{Raised}
use Rattle.shortest.proofs.expand.Search.raise.Given as goal

abbrev pub invariant-loop-u : goal.invariant-loop-u
invariant-loop-u l = record { size : length l.prices ≡ length l.initial.prices; raised : Raised l.self.queue.now l.u-index l.self.growth.least l.initial.prices l.prices }
