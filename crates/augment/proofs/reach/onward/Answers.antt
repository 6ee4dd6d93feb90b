-- `reach::onward` meets its contract: the slots with no mark ahead are those that are wanted. Assumes nothing.
use native.Mathlib.Omega.{arith}
use Rattle.channel.specs.Map.Numbers.{spots-is}
use Rattle.augment.specs.Slots.{bits-onward}
use Rattle.augment.proofs.reach.onward.Goals as goal

pub unmarked-requires : goal.unmarked-requires
unmarked-requires c =
    let p = c.requires in
    (omega (arith, spots-is, p.1), omega (arith, spots-is, p.2))

pub move_slots-requires : goal.move_slots-requires
move_slots-requires c =
    let p = c.requires in
    (p.0.asked, p.0.loads, omega (arith, spots-is, p.2))

pub returns : goal.returns
returns c = bits-onward _ _ _ _ c.unmarked.ensures c.move_slots.ensures
