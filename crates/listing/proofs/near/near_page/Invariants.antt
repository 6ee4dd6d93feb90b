-- What each turn of `near::near_page` keeps: the lines of the entries before this one stand on the page, which has room for one more. Assumes nothing.
use Rattle.std.specs.Prelude.{◌-◌, ◌*◌, ◌≤◌}
use Rattle.model.specs.Record.{job_of}
use Rattle.listing.specs.Near.{near_from}
use Rattle.listing.specs.Puts.{Parts}
use Rattle.listing.proofs.near.near_page.Given as goal

abbrev pub invariant-loop-entry : goal.invariant-loop-entry
invariant-loop-entry l =
    (l.page.length ≤ 32760) × (l.page.length ≤ 342 * (l.entry - l.from))
    × Parts (near_from (job_of l.rec) l.near l.from) (near_from (job_of l.rec) l.near l.entry) 0 l.fn.page.bytes l.page.bytes l.page.length
