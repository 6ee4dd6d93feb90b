-- `ahead::four_near` meets its contract: the bits are the four answers. Assumes nothing.
use mathlib.Core.Path.{ap, ◌∙◌}
use native.Mathlib.Omega.{arith}
use Rattle.slots.specs.Ahead.{unset, four-bits}
use Rattle.slots.proofs.ahead.four_near.Goals as goal

pub returns : goal.returns
returns c =
    let s = c.args in
    four-bits (c.bare-a.ensures.0 ∙ ap (unset s.near.now) (omega arith)) c.bare-b.ensures.0 c.bare-c.ensures.0 c.bare-d.ensures.0
    c.bare-a.ensures.1 c.bare-b.ensures.1 c.bare-c.ensures.1 c.bare-d.ensures.1
