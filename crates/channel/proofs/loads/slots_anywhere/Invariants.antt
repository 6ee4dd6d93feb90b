-- What each turn of `loads::slots_anywhere` keeps. Assumes nothing.
use mathlib.Core.Path.{◌≡◌}
use Prim.Native.Nat.{◌≤◌}
use Rattle.channel.specs.Map.LoadedSlots.{loaded_from}
use Rattle.channel.proofs.loads.slots_anywhere.Given as goal

abbrev pub invariant-loop-k : goal.invariant-loop-k
invariant-loop-k l = (l.k ≤ 5) × (l.r ≡ loaded_from l.rec l.u l.k)

abbrev pub decreases-loop-k : goal.decreases-loop-k
decreases-loop-k l = l.k
