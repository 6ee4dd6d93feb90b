-- `route::fill_copy` meets its contract: the loads of the copy are filled, and what is left unwired is counted and shown. Assumes nothing.
use Rattle.channel.specs.Map.Numbers.{spots-is}
use Rattle.search.specs.Routing.{copied-front, copy-held, copy-whole, copy-short}
use borrow.Author.Rules.{rules}
use Rattle.search.proofs.route.fill_copy.Goals as goal

pub fill-requires : goal.fill-requires
fill-requires c =
    let p = c.requires in (
      record { asked = search rules; loads = search rules },
      record { marks = search (rules, spots-is); queue = search (rules, spots-is); parents = search (rules, spots-is); slots = search (rules, spots-is) },
      copy-held p.0 (copied-front p.0 _ p.1 c.copy.ensures),
      search rules,
    )

pub returns-then-k-eq0 : goal.returns-then-k-eq0
returns-then-k-eq0 c = let p = c.requires in copy-whole _ (copied-front p.0 _ p.1 c.copy.ensures) c.fill.ensures c.unwired-k.ensures c.if-k-eq0.true

pub show-requires : goal.show-requires
show-requires c = (search (rules, spots-is), c.requires.2)

pub returns : goal.returns
returns c =
    let p = c.requires in
    copy-short _ (copied-front p.0 _ p.1 c.copy.ensures) c.fill.ensures c.unwired-k.ensures c.if-k-eq0.false c.show.ensures
