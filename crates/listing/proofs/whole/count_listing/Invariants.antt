-- What each turn of `whole::count_listing` keeps: the bytes counted, what is left at the cursor and the last lines are as many as the listing has. Assumes nothing.
use Rattle.std.specs.Prelude.{◌≡◌, ◌+◌, length}
use Rattle.model.specs.Record.{job_of, load}
use Rattle.model.specs.Listing.{wires_listing}
use Rattle.listing.specs.Left.{left_at, ahead_at, StandsAt}
use Rattle.listing.specs.Whole.{total_lines}
use Rattle.listing.proofs.whole.count_listing.Given as goal

abbrev pub invariant-loop-next : goal.invariant-loop-next
invariant-loop-next l =
    (l.n + (length (left_at (job_of l.rec) (load l.rec) l.next) + length (total_lines (job_of l.rec) (load l.rec))) ≡ length (wires_listing (job_of l.rec) (load l.rec)))
    × StandsAt l.rec l.next

abbrev pub decreases-loop-next : goal.decreases-loop-next
decreases-loop-next l = ahead_at l.next
