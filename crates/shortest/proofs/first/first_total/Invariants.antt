-- What each turn of `first::first_total` keeps. Assumes nothing.
use mathlib.Core.Path.{◌≡◌}
use Prim.Native.Nat.{◌*◌, ◌≤◌}
use Rattle.sums.specs.Counting.{sum}
use Rattle.model.specs.Record.{job_of}
use Rattle.channel.specs.Map.{spots, want}
use Rattle.shortest.specs.FirstPrices.{first_price}
use Rattle.shortest.proofs.first.first_total.Given as goal

abbrev pub invariant-loop-u : goal.invariant-loop-u
invariant-loop-u l = (l.u ≤ spots) × (l.n ≤ 414 * l.u) × (l.n ≡ sum l.u (λ x. first_price (job_of l.job) x * want (job_of l.job) x))
