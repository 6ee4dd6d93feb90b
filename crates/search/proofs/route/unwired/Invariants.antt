-- What each turn of `route::unwired` keeps. Assumes nothing.
use mathlib.Core.Path.{◌≡◌}
use Prim.Native.Nat.{◌-◌, ◌≤◌}
use Rattle.sums.specs.Counting.{sum}
use Rattle.model.specs.Record.{job_of}
use Rattle.channel.specs.Map.{spots, want, starts}
use Rattle.search.proofs.route.unwired.Given as goal

abbrev pub invariant-loop-u : goal.invariant-loop-u
invariant-loop-u l = (l.u ≤ spots) × (l.n ≤ l.u) × (l.n ≡ sum l.u (λ x. want (job_of l.job) x - starts (job_of l.job) l.loads x))
