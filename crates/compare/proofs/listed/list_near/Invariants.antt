-- Each page leads further. Assumes nothing.
use Rattle.std.specs.Prelude.{◌-◌, ◌<◌, IfSome}
use Rattle.listing.specs.Near.{entry_of}
use Rattle.compare.proofs.listed.list_near.Given as goal

abbrev pub invariant-loop-next : goal.invariant-loop-next
invariant-loop-next l = IfSome l.next (λ q. q < 4800)

abbrev pub decreases-loop-next : goal.decreases-loop-next
decreases-loop-next l = 4801 - entry_of l.next
