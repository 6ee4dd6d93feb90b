-- `wire_line` meets its contract: the pins passed are wired. Assumes nothing.
use Rattle.channel.specs.Map.Numbers.{is-spot}
use Rattle.shortest.proofs.wiring.Work.wire_line.Goals as goal

pub wire_pin-requires : goal.wire_pin-requires
wire_pin-requires c =
    let l = c.loop-i.invariant in
    record { lent = l.lent; standing = l.advanced.standing; wireable = c.requires.wireable; spot = is-spot c.spot_on-u.ensures.1 }
