-- `places::two_out` meets its contract: what leans away balances what leans here. Assumes nothing.
use Rattle.cell.specs.Cell.Sums.{two-read}
use Rattle.cell.proofs.places.two_out.Goals as goal

pub returns : goal.returns
returns c =
    two-read _ _ _ _ _ _ _ _ _ _ c.lean.ensures.0 c.lean-2.ensures.0
    c.lean-3.ensures.0 c.lean-4.ensures.0 c.lean-5.ensures.0
