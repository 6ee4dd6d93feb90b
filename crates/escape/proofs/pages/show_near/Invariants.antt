-- The entries from the next one on are left of the listing. Assumes nothing.
use Rattle.std.proofs.Common.{◌≡◌, ◌+◌, ◌-◌, ◌*◌, ◌≤◌, ℕ, length}
use Rattle.std.specs.Prelude.{Option, Some, None, IfSome, ◌<◌}
use Rattle.model.specs.Record.{job_of}
use Rattle.listing.specs.Near.{short_listing, near_left, entry_of}
use Rattle.escape.proofs.Handing.{Handing}
use Rattle.escape.proofs.pages.show_near.Given as goal

abbrev pub invariant-loop-next : goal.invariant-loop-next
invariant-loop-next g l =
    IfSome l.next (λ q. q < 4800) × (l.n ≤ 33 + 32768 * entry_of l.next) × (length l.page.bytes ≡ 32768)
    × Handing (g.W.Write.contents l.fn.out) (g.W.Write.contents l.out) (short_listing (job_of l.rec) l.near l.short) (near_left (job_of l.rec) l.near l.next) l.n

abbrev pub decreases-loop-next : goal.decreases-loop-next
decreases-loop-next g l = 4801 - entry_of l.next
