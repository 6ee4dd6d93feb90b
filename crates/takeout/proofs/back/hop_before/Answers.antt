-- `takeout::back::hop_before` meets its contract: a chosen pin's hop is the first of its wire, and at another place the wire came as `partner_back` answers.
use mathlib.Core.Bool.{Bool, ◌&&◌}
use mathlib.Core.Path.{ap}
use native.Mathlib.Omega.{arith}
use borrow.Author.Rules.{rules}
use lib.Dec.{eqb}
use Prim.Native.Nat.{◌/◌, ◌%◌}
use Rattle.channel.specs.Map.Numbers.{darts-is}
use Rattle.wire.specs.Walks.{ends-few}
use Rattle.takeout.specs.Back.{slot-five, from-pin, lane-leaves, answer-five, back-linked, goes_before}
use Rattle.takeout.proofs.back.hop_before.Goals as goal

pub chosen_at-requires : goal.chosen_at-requires
chosen_at-requires c = (c.requires.0.long, omega (arith, darts-is, c.requires.1.range))

pub returns-then-u-chosen_at : goal.returns-then-u-chosen_at
returns-then-u-chosen_at c =
    from-pin c.args.rec.now c.requires.0 c.args.hop.dart c.args.hop.lane c.requires.1 _
    (ap (λ (b : Bool). eqb (c.args.hop.dart / 8 % 8) 1 && b) c.chosen_at.ensures) c.if-u-chosen_at.true

pub lanes_round-around-requires : goal.lanes_round-around-requires
lanes_round-around-requires c = search (rules, darts-is)

pub partner_back-arrival-requires : goal.partner_back-arrival-requires
partner_back-arrival-requires c = (
  slot-five c.args.rec.now c.requires.0 c.args.hop.dart c.args.hop.lane c.requires.1,
  lane-leaves c.args.rec.now c.requires.0 c.args.hop.dart c.args.hop.lane c.requires.1 _
      (ap (λ (b : Bool). eqb (c.args.hop.dart / 8 % 8) 1 && b) c.chosen_at.ensures) c.if-u-chosen_at.false
      _ _ c.lanes_round-around.ensures.0 c.lanes_round-around.ensures.1,
  ends-few c.args.rec.now c.requires.0.values _ _ _ c.lanes_round-around.ensures.0 c.lanes_round-around.ensures.1,
)

pub overflow_add-u : goal.overflow_add-u
overflow_add-u c =
    omega (
      arith,
      answer-five c.args.rec.now c.requires.0 c.args.hop.dart c.args.hop.lane c.requires.1 _
          (ap (λ (b : Bool). eqb (c.args.hop.dart / 8 % 8) 1 && b) c.chosen_at.ensures) c.if-u-chosen_at.false
          _ _ c.lanes_round-around.ensures.0 c.lanes_round-around.ensures.1 _ _ c.partner_back-arrival.ensures,
      darts-is,
      c.requires.1.range,
    )

pub step_back-requires : goal.step_back-requires
step_back-requires c =
    let (a, b) =
    back-linked c.args.rec.now c.requires.0 c.args.hop.dart c.args.hop.lane c.requires.1 _
    (ap (λ (b : Bool). eqb (c.args.hop.dart / 8 % 8) 1 && b) c.chosen_at.ensures) c.if-u-chosen_at.false
    _ _ c.lanes_round-around.ensures.0 c.lanes_round-around.ensures.1 _ _ c.partner_back-arrival.ensures in
    (omega (arith, darts-is, a), b)

pub returns : goal.returns
returns c =
    goes_before c.args.rec.now c.requires.0 c.args.hop.dart c.args.hop.lane c.requires.1 _
    (ap (λ (b : Bool). eqb (c.args.hop.dart / 8 % 8) 1 && b) c.chosen_at.ensures) c.if-u-chosen_at.false
    _ _ c.lanes_round-around.ensures.0 c.lanes_round-around.ensures.1 _ _ c.partner_back-arrival.ensures _ c.step_back.ensures.0
