-- What each turn of `reader::judge` keeps. Assumes nothing.
use Prim.Native.Nat.{◌-◌}
use lib.ListN.{length}
use Rattle.text.proofs.Midway.{Midway}
use Rattle.text.proofs.reader.judge.Given as goal

abbrev pub invariant-loop-line : goal.invariant-loop-line
invariant-loop-line l = Midway l.text l.cursor l.opening.value l.chosen

abbrev pub decreases-loop-line : goal.decreases-loop-line
decreases-loop-line l = length l.text - l.cursor.at
