-- What each turn of `whole::put_listing` keeps: what is laid behind the first line and what is left at the cursor are all wires. Assumes nothing.
use Rattle.std.specs.Prelude.{◌≡◌, length}
use Rattle.model.specs.Record.{job_of, load}
use Rattle.listing.specs.Puts.{Parts}
use Rattle.listing.specs.Left.{left_at, ahead_at, StandsAt}
use Rattle.listing.proofs.whole.put_listing.Given as goal

abbrev pub invariant-loop-next : goal.invariant-loop-next
invariant-loop-next l =
    StandsAt l.rec l.next × (length l.page.bytes ≡ 32768)
    × Parts (left_at (job_of l.rec) (load l.rec) l.initial.next) (left_at (job_of l.rec) (load l.rec) l.next) l.initial.n l.initial.out l.out l.n

abbrev pub decreases-loop-next : goal.decreases-loop-next
decreases-loop-next l = ahead_at l.next
