-- What each turn of `loads::stale_run` keeps. Assumes nothing.
use mathlib.Core.Path.{◌≡◌}
use Prim.Native.Nat.{◌≤◌}
use Rattle.channel.specs.Map.Fresh.{stale_to}
use Rattle.channel.proofs.loads.stale_run.Given as goal

abbrev pub invariant-loop-j : goal.invariant-loop-j
invariant-loop-j l = (l.j ≤ 16) × (l.stale ≡ stale_to l.old l.rec l.k l.j)
