-- `untangle::unloop` meets its contract: none of the loops that stood is one of loads that lead outward. Assumes nothing.
use borrow.Author.Rules.{rules}
use lib.ListN.{get_or-replicate}
use Rattle.channel.specs.Map.Numbers.{spots-is}
use Rattle.search.specs.Rings.{freed-outward}
use Rattle.search.proofs.untangle.unloop.Goals as goal

pub lead_outward-requires : goal.lead_outward-requires
lead_outward-requires c = (search rules, c.rows.ensures.1, c.columns.ensures.1, λ i l. get_or-replicate 32768 i 0 0 l)

pub untangle-requires : goal.untangle-requires
untangle-requires c =
    let (J, H) = c.requires in
    record {
      before = search rules;
      room = record { whole = H.long; marks = search (rules, spots-is); stack = search (rules, spots-is); slots = search (rules, spots-is) };
      job = J;
      held = H;
    }

pub returns : goal.returns
returns c = freed-outward c.untangle.ensures _ c.lead_outward.ensures
