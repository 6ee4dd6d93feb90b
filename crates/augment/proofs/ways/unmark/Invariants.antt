-- What each turn of `ways::unmark` keeps. Assumes nothing.
use mathlib.Core.Path.{◌≡◌}
use lib.ListN.{length}
use Rattle.augment.specs.Marks.{Unmarked}
use Rattle.augment.proofs.ways.unmark.Given as goal

abbrev pub invariant-loop-u : goal.invariant-loop-u
invariant-loop-u l = record { size : length l.marks ≡ length l.initial.marks; gone : Unmarked l.queue l.u-index l.initial.marks l.marks }
