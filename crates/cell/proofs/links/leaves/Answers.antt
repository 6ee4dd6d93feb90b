-- `links::leaves` meets its contract, mark by mark. Assumes nothing.
use mathlib.Core.Path.{◌∙◌}
use Rattle.cell.specs.Cell.Rooms.{leaving-missing, leaving-other}
use Rattle.cell.proofs.links.leaves.Goals as goal

pub returns-then-mark-eq2 : goal.returns-then-mark-eq2
returns-then-mark-eq2 c = leaving-missing _ c.if-mark-eq2.true

pub returns : goal.returns
returns c = c.held.ensures.0 ∙ leaving-other _ c.if-mark-eq2.false
