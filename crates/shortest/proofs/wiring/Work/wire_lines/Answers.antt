-- `wire_lines` meets its contract: the pins of the rows passed are wired. Assumes nothing.
use Rattle.shortest.proofs.wiring.Work.wire_lines.Goals as goal

pub wire_line-requires : goal.wire_line-requires
wire_line-requires c =
    let l = c.loop-i.invariant in
    record {
      lent = l.lent;
      standing = l.advanced.standing;
      wireable = c.requires.wireable;
      line = (c.nth_line-l.ensures.number, c.nth_line-l.ensures.pins);
    }
