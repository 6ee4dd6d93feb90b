-- `ahead::eight_near` meets its contract: four bits and four more. Assumes nothing.
use mathlib.Core.Path.{ap}
use Rattle.slots.specs.Ahead.{unset, eight-bits}
use Rattle.slots.proofs.ahead.eight_near.Goals as goal

pub returns : goal.returns
returns c k w =
    let t = c.args.near.now in
    eight-bits c.four_near.ensures c.four_near-2.ensures (λ j l. ap (unset t) (w.low j l)) (λ j l. ap (unset t) (w.high j l))
