-- What each turn of `mark_place` keeps: the pins of the wires that come by the slots before the k-th are marked. Assumes nothing.
use Rattle.std.specs.Prelude.{◌≡◌, length}
use Rattle.takeout.specs.Marks.{Adds, ByFirst}
use Rattle.takeout.proofs.mark_place.Given as goal

abbrev pub invariant-loop-k : goal.invariant-loop-k
invariant-loop-k l = (length l.taken ≡ length l.initial.taken) × Adds l.was (ByFirst l.u l.k) l.initial.taken l.taken
