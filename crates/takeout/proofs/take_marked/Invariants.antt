-- What each turn of `take_marked` keeps: of the pins before the i-th cell, the wires of those marked are taken out. Assumes nothing.
use Rattle.takeout.specs.AllTaken.{TakenTo}
use Rattle.takeout.specs.Marks.{is_marked}
use Rattle.takeout.proofs.take_marked.Given as goal

abbrev pub invariant-loop-i : goal.invariant-loop-i
invariant-loop-i l = TakenTo l.was (is_marked l.taken) l.initial.rec l.rec l.i
