-- `reach::leaves_directly` meets its contract. Assumes nothing.
use mathlib.Core.Bool.{not}
use mathlib.Core.Path.{ap}
use Rattle.augment.specs.Queue.{leaves-not, leaves_by}
use Rattle.augment.proofs.reach.leaves_directly.Goals as goal

pub returns-then-not-can_move : goal.returns-then-not-can_move
returns-then-not-can_move c = leaves-not _ _ _ 4 c.can_move.ensures (ap not c.if-not-can_move.true)

pub returns : goal.returns
returns c =
    leaves_by _ _ _ 4 c.can_move.ensures (ap not c.if-not-can_move.false) c.head_of.ensures.0 c.is_outside.ensures
