-- What each turn of `back::pin_of` keeps: n hops after the first so far comes the given one. Assumes nothing.
use Rattle.std.specs.Prelude.{◌-◌, ◌≤◌}
use Rattle.wire.specs.Hops.{Runs}
use Rattle.takeout.specs.Back.{Leads}
use Rattle.takeout.proofs.back.pin_of.Given as goal

abbrev pub invariant-loop-before : goal.invariant-loop-before
invariant-loop-before l = (l.n ≤ 11200) × Runs l.rec l.first.dart l.first.lane × Leads l.rec l.n l.first.dart l.first.lane l.fn.hop.dart l.fn.hop.lane

abbrev pub decreases-loop-before : goal.decreases-loop-before
decreases-loop-before l = 11201 - l.n
