-- What each turn of `wires::count_wires` keeps. Assumes nothing.
use mathlib.Core.Path.{◌≡◌}
use Prim.Native.Nat.{◌+◌, ◌*◌, ◌≤◌}
use Rattle.sums.specs.Counting.{sum}
use Rattle.model.specs.Record.{job_of}
use Rattle.channel.specs.Map.{starts}
use Rattle.listing.proofs.wires.count_wires.Given as goal

abbrev pub invariant-loop-x : goal.invariant-loop-x
invariant-loop-x l = (l.x ≤ 1641) × (l.n ≤ l.x) × (l.n ≡ sum l.x (λ y. starts (job_of l.rec) l.rec (8 * y + 1)))
