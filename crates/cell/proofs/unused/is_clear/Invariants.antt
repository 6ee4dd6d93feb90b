-- What each turn of `unused::is_clear` keeps. Assumes nothing.
use mathlib.Core.Path.{◌≡◌}
use Rattle.cell.specs.Unused.{is_clear}
use Rattle.cell.proofs.unused.is_clear.Given as goal

abbrev pub invariant-loop-b : goal.invariant-loop-b
invariant-loop-b l = l.clear ≡ is_clear l.rec l.start l.b-index
