-- What is left at the cursor and the last lines are left of the listing. Assumes nothing.
use Rattle.std.proofs.Common.{◌≡◌, ◌++◌, length}
use Rattle.model.specs.Record.{job_of, load}
use Rattle.model.specs.Listing.{wires_listing}
use Rattle.listing.specs.Left.{left_at, ahead_at, StandsAt}
use Rattle.listing.specs.Whole.{total_lines}
use Rattle.escape.proofs.Handing.{Handing}
use Rattle.escape.proofs.pages.show_wires.Given as goal

abbrev pub invariant-loop-next : goal.invariant-loop-next
invariant-loop-next g l =
    Handing (g.W.Write.contents l.fn.out) (g.W.Write.contents l.out) (wires_listing (job_of l.rec) (load l.rec))
    (left_at (job_of l.rec) (load l.rec) l.next ++ total_lines (job_of l.rec) (load l.rec)) l.n
    × (length l.page.bytes ≡ 32768)
    × StandsAt l.rec l.next

abbrev pub decreases-loop-next : goal.decreases-loop-next
decreases-loop-next g l = ahead_at l.next
