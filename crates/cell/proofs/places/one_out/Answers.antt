-- `places::one_out` meets its contract: what leans away balances what leans here. Assumes nothing.
use Rattle.cell.specs.Cell.Sums.{one-read}
use Rattle.cell.proofs.places.one_out.Goals as goal

pub returns : goal.returns
returns c =
    one-read _ _ _ _ _ _ _ _ _ _ c.lean-2.ensures.0 c.lean.ensures.0
    c.lean-3.ensures.0 c.lean-4.ensures.0 c.lean-5.ensures.0
