-- What each turn of `scan` keeps. Assumes nothing.
use Prim.Native.Nat.{◌-◌, ◌%◌}
use Rattle.audit.specs.Loops.Slots.{Scanning}
use Rattle.audit.proofs.loops.Search.scan.Given as goal

abbrev pub invariant-loop-left : goal.invariant-loop-left
invariant-loop-left l = Scanning l.rec l.self.fin.now l.u (l.s0 % 8) l.left l.k

abbrev pub decreases-loop-left : goal.decreases-loop-left
decreases-loop-left l = 5 - l.k
