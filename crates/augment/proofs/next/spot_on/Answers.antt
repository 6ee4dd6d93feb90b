-- `next::spot_on` meets its contract. Assumes nothing.
use mathlib.Core.Path.{◌∙◌}
use Rattle.augment.specs.Pins.{spot-upright, spot-level}
use Rattle.augment.proofs.next.spot_on.Goals as goal

pub returns-then-l : goal.returns-then-l
returns-then-l c = (c.pin_exit.ensures.0 ∙ spot-upright _ _ c.if-l.true, c.pin_exit.ensures.1)

pub returns-else-l : goal.returns-else-l
returns-else-l c = (c.pin_exit-else-l.ensures.0 ∙ spot-level _ _ c.if-l.false, c.pin_exit-else-l.ensures.1)
