-- What each turn of `fill` keeps: the rows before r are filled, and the number is the one after as many draws. Assumes nothing.
use Rattle.std.specs.Prelude.{◌≡◌, ◌*◌, length}
use Rattle.model.specs.Trial.{number_after}
use Rattle.trials.specs.Filling.{Filling}
use Rattle.trials.proofs.fill.Given as goal

abbrev pub invariant-loop-r : goal.invariant-loop-r
invariant-loop-r g l =
    (length l.rec ≡ length l.initial.rec) × (l.generator.number ≡ number_after (l.width * l.r) l.initial.generator.number)
    × Filling g.P.Plane.tiles l.height l.width l.initial.generator.number l.bounds.low l.bounds.high l.r 0 l.initial.rec l.rec
