-- `step::step` meets its contract: what the search for a wire worked on is lent to the untangling. Assumes nothing.
use borrow.Author.Rules.{rules}
use Rattle.channel.specs.Map.Numbers.{spots-is}
use Rattle.search.specs.Filling.{cleared-dead}
use Rattle.search.specs.Added.{zeros-cleared}
use Rattle.search.specs.Stepping.{copied-held, laid-held, step-full, step_added}
use Rattle.search.proofs.step.step.Goals as goal

pub next_wire-requires : goal.next_wire-requires
next_wire-requires c = (
  record { asked = search rules; loads = search rules },
  record { marks = search (rules, spots-is); queue = search (rules, spots-is); parents = search (rules, spots-is); slots = search (rules, spots-is) },
  copied-held c.requires c.copy.ensures,
  cleared-dead (zeros-cleared 13128),
  search rules,
)

pub untangle-requires : goal.untangle-requires
untangle-requires c =
    record {
      before = search rules;
      room = record { whole = search rules; marks = search (rules, spots-is); stack = search (rules, spots-is); slots = search (rules, spots-is) };
      job = _;
      held = laid-held c.requires c.copy.ensures c.in-Some.ensures;
    }

pub returns-in-Some : goal.returns-in-Some
returns-in-Some c = step_added c.requires c.copy.ensures c.in-Some.ensures c.untangle.ensures c.copy-in-Some.ensures

pub returns-in-None : goal.returns-in-None
returns-in-None c = step-full c.requires c.copy.ensures (zeros-cleared 13128) c.in-None.ensures.1
