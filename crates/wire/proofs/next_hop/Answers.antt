-- `wire::next_hop` meets its contract: outside the wire ends, and at a place it goes on as `partner` answers. Assumes nothing.
use borrow.Author.Rules.{rules}
use mathlib.Core.Path.{sym, ◌∙◌}
use native.Mathlib.Omega.{arith}
use Rattle.channel.specs.Map.Numbers.{darts-is}
use Rattle.wire.specs.Walks.{ends-few, out-ends, slot-five, lane-comes, answer-five, goes-next}
use Rattle.wire.proofs.next_hop.Goals as goal

pub head_of-requires : goal.head_of-requires
head_of-requires c = search (rules, darts-is)

pub returns-then-is_outside : goal.returns-then-is_outside
returns-then-is_outside c =
    out-ends c.args.rec.now c.requires.0 c.args.hop.dart c.args.hop.lane c.requires.1 _ c.head_of.ensures.0
    (sym c.is_outside.ensures ∙ c.if-is_outside.true)

pub step_back-back-requires : goal.step_back-back-requires
step_back-back-requires c = search (rules, darts-is)

pub partner-departure-requires : goal.partner-departure-requires
partner-departure-requires c = (
  slot-five c.args.rec.now c.requires.0 c.args.hop.dart c.args.hop.lane c.requires.1 _ c.head_of.ensures.0
      (sym c.is_outside.ensures ∙ c.if-is_outside.false) _ c.step_back-back.ensures.0,
  lane-comes c.args.rec.now c.requires.0 c.args.hop.dart c.args.hop.lane c.requires.1 _ c.head_of.ensures.0
      (sym c.is_outside.ensures ∙ c.if-is_outside.false) _ c.step_back-back.ensures.0
      _ _ c.lanes_round-around.ensures.0 c.lanes_round-around.ensures.1,
  ends-few c.args.rec.now c.requires.0.values _ _ _ c.lanes_round-around.ensures.0 c.lanes_round-around.ensures.1,
)

pub overflow_add-result : goal.overflow_add-result
overflow_add-result c =
    omega (
      arith,
      answer-five c.args.rec.now c.requires.0 c.args.hop.dart c.args.hop.lane c.requires.1 _ c.head_of.ensures.0
          (sym c.is_outside.ensures ∙ c.if-is_outside.false) _ c.step_back-back.ensures.0
          _ _ c.lanes_round-around.ensures.0 c.lanes_round-around.ensures.1
          _ _ c.partner-departure.ensures,
    )

pub returns : goal.returns
returns c =
    goes-next c.args.rec.now c.requires.0 c.args.hop.dart c.args.hop.lane c.requires.1 _ c.head_of.ensures.0
    (sym c.is_outside.ensures ∙ c.if-is_outside.false) _ c.step_back-back.ensures.0
    _ _ c.lanes_round-around.ensures.0 c.lanes_round-around.ensures.1
    _ _ c.partner-departure.ensures
