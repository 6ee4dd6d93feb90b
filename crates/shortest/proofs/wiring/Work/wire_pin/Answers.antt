-- `wire_pin` meets its contract: a pin that is to have a wire gets one, and nothing is done at any other spot. Assumes nothing.
use Rattle.std.proofs.Common.{not}
use Rattle.std.proofs.Common.{ap}
use mathlib.Core.Path.{sym, ◌∙◌}
use native.Mathlib.Omega.{arith}
use Rattle.channel.specs.Map.Numbers.{spots-is}
use Rattle.augment.specs.Answers.{yes-not, no-not}
use Rattle.augment.specs.Shut.{unwired-start}
use Rattle.shortest.specs.Lines.{standing-few, advanced-no-pin, advanced-wired, advanced-grown}
use Rattle.shortest.proofs.wiring.Work.wire_pin.Goals as goal

pub is_start-requires : goal.is_start-requires
is_start-requires c = let p = c.requires in (p.lent.whole.asked, omega (arith, spots-is, p.spot))

pub returns-then-not-is_start-clause-advanced : goal.returns-then-not-is_start-clause-advanced
returns-then-not-is_start-clause-advanced c = advanced-no-pin c.requires.standing (no-not c.is_start.ensures (ap not c.if-not-is_start.true))

pub wire_starts-requires : goal.wire_starts-requires
wire_starts-requires c = let p = c.requires in (p.lent.whole.asked, p.lent.whole.loads, omega (arith, spots-is, p.spot))

pub returns-then-wire_starts-ne0-clause-advanced : goal.returns-then-wire_starts-ne0-clause-advanced
returns-then-wire_starts-ne0-clause-advanced c = advanced-wired c.requires.standing (λ z. c.if-wire_starts-ne0.true (c.wire_starts.ensures ∙ z))

pub grow-requires : goal.grow-requires
grow-requires c =
    let p = c.requires in
    let l = p.lent in (
      l.whole,
      l.room,
      l.stack,
      l.rim,
      l.prices,
      p.standing.arranged,
      p.wireable,
      p.standing.cleared,
      p.spot,
      unwired-start _ _ _ (yes-not c.is_start.ensures (ap not c.if-not-is_start.false)) (sym c.wire_starts.ensures ∙ c.if-wire_starts-ne0.false),
      standing-few p.standing,
    )

pub returns-clause-lent : goal.returns-clause-lent
returns-clause-lent c =
    let l = c.requires.lent in
    let k = c.grow.auto in
    record {
      whole = record { asked = l.whole.asked; loads = omega (arith, k.loads, l.whole.loads) };
      room = record {
        marks = omega (arith, k.marks, l.room.marks);
        queue = omega (arith, k.queue, l.room.queue);
        parents = omega (arith, k.parent, l.room.parents);
        slots = omega (arith, k.slot, l.room.slots);
      };
      stack = omega (arith, k.stack, l.stack);
      rim = omega (arith, k.rim, l.rim);
      prices = omega (arith, k.prices, l.prices);
    }

pub returns-clause-advanced : goal.returns-clause-advanced
returns-clause-advanced c = let p = c.requires in advanced-grown p.standing p.spot c.grow.ensures
