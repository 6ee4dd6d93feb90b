-- What each turn of `put_tens` keeps: the digits above are written, and `power` is that of the next one. Assumes nothing.
use Rattle.std.specs.Prelude.{◌≡◌, List, ◌++◌, ℕ, ◌+◌, ◌-◌, ◌^◌, ◌≤◌}
use Rattle.model.specs.Listing.{tens}
use Rattle.listing.specs.Writes.{Writes}
use Rattle.listing.proofs.page.Page.put_tens.Given as goal

abbrev pub invariant-loop : goal.invariant-loop
invariant-loop l =
    (l.power ≡ 10 ^ (19 - l.counter)) × (l.self.length ≤ l.fn.self.length + l.counter)
    × ((bs : List ℕ) × (tens 19 l.n ≡ bs ++ tens (19 - l.counter) l.n) × Writes bs l.fn.self l.self)
