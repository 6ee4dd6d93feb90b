-- `wiring::wire_all` meets its contract: first prices are prices of the copy without its loads. Assumes nothing.
use Rattle.channel.specs.Map.Numbers.{spots-is}
use Rattle.search.specs.Added.{zeros-cleared}
use Rattle.search.specs.Routing.{copied-front}
use Rattle.shortest.specs.LeastWiring.{begun-standing, all-wired}
use borrow.Author.Rules.{rules}
use Rattle.shortest.proofs.wiring.wire_all.Goals as goal

pub first_prices-requires : goal.first_prices-requires
first_prices-requires c = (c.requires.0.long, search (rules, spots-is))

pub wire_lines-requires : goal.wire_lines-requires
wire_lines-requires c =
    let p = c.requires in
    record {
      lent = record {
        whole = record { asked = p.0.long; loads = search rules };
        room = record { marks = search (rules, spots-is); queue = search (rules, spots-is); parents = search (rules, spots-is); slots = search (rules, spots-is) };
        stack = search (rules, spots-is);
        rim = search (rules, spots-is);
        prices = search (rules, spots-is);
      };
      standing = begun-standing p.0 13128 (copied-front p.0 _ p.2 c.copy.ensures) c.unwire.ensures c.first_prices.ensures
          (zeros-cleared 13128);
      wireable = p.1;
    }

pub returns : goal.returns
returns c =
    let p = c.requires in
    all-wired p.0 (copied-front p.0 _ p.2 c.copy.ensures) c.unwire.ensures c.wire_lines.ensures.advanced
