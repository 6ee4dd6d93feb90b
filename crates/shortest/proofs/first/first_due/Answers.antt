-- `first::first_due` meets its contract. Assumes nothing.
use Rattle.std.proofs.Common.{not}
use Rattle.std.proofs.Common.{ap}
use native.Mathlib.Omega.{arith}
use Rattle.augment.specs.Answers.{yes-not, no-not}
use Rattle.shortest.specs.FirstRow.{due-none, due-some}
use Rattle.shortest.proofs.first.first_due.Goals as goal

pub returns-then-not-is_start : goal.returns-then-not-is_start
returns-then-not-is_start c = (due-none _ _ (no-not c.is_start.ensures (ap not c.if-not-is_start.true)), omega arith)

pub returns : goal.returns
returns c = (due-some _ _ _ (yes-not c.is_start.ensures (ap not c.if-not-is_start.false)) c.first_price.ensures.0, c.first_price.ensures.1)
