-- What each turn of `wires::wires_page` keeps: what was left at the first cursor stands on the page, and the rest is left at this one. Assumes nothing.
use Rattle.std.specs.Prelude.{◌+◌, ◌*◌, ◌≤◌, Some}
use Rattle.model.specs.Record.{job_of, load}
use Rattle.listing.specs.Left.{left_at, ahead_at, Passes}
use Rattle.listing.proofs.wires.wires_page.Given as goal

abbrev pub invariant-loop-next : goal.invariant-loop-next
invariant-loop-next l =
    (l.page.length ≤ 32760) × (l.page.length + 160 * ahead_at l.next ≤ 160 * ahead_at (Some l.fn.from))
    × Passes l.rec (left_at (job_of l.rec) (load l.rec) (Some l.fn.from)) 0 l.fn.page.bytes l.page.bytes l.page.length l.next

abbrev pub decreases-loop-next : goal.decreases-loop-next
decreases-loop-next l = ahead_at l.next
