-- What each turn of `route::show` keeps. Assumes nothing.
use mathlib.Core.Path.{◌≡◌}
use mathlib.Core.List.{◌++◌}
use lib.ListN.{drop}
use Rattle.sums.specs.Counting.{when}
use Rattle.model.specs.Record.{bytes}
use Rattle.augment.specs.Marks.{marked}
use Rattle.search.proofs.route.show.Given as goal

abbrev pub invariant-loop-i : goal.invariant-loop-i
invariant-loop-i l = l.byte-items ≡ bytes l.i (λ x. when (marked l.marks x) 1) ++ drop l.i l.initial.byte-items
