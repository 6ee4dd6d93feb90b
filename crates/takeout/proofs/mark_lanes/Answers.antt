-- `takeout::mark_lanes` meets its contract: lane after lane. Assumes nothing.
use Rattle.std.proofs.Common.{ℕ, ◌<◌, refl, subst, ◌∙◌, arith, length-set}
use Rattle.channel.specs.Map.Numbers.{darts-is}
use Rattle.takeout.specs.Marks.{lanes-none, lanes-more, lanes-number, lanes_all}
use Rattle.takeout.proofs.mark_lanes.Goals as goal

pub loop-lane-init : goal.loop-lane-init
loop-lane-init c =
    let a = c.args in (
      refl,
      lanes-number a.was.now c.requires.0 a.dart _ c.requires.3 c.load_along-n.ensures.0,
      lanes-none a.was.now c.requires.0 a.dart a.from _,
    )

pub pin_of-requires : goal.pin_of-requires
pin_of-requires c = (
  c.requires.0,
  record {
    range = omega (arith, darts-is, c.requires.2);
    linked = c.requires.3;
    loaded = subst (λ (m : ℕ). c.loop-lane.lane < m) c.loop-lane.invariant.1 c.loop-lane-test.true;
  },
)

pub loop-lane-preserved : goal.loop-lane-preserved
loop-lane-preserved c =
    let a = c.args in
    let l = c.loop-lane in (
      length-set l.taken _ _ ∙ l.invariant.0,
      l.invariant.1,
      lanes-more a.was.now c.requires.0 a.dart a.from l.lane _ _ l.taken (omega arith) (omega (arith, c.pin_of.ensures.below, l.invariant.0, c.requires.1))
          c.pin_of.ensures l.invariant.2,
    )

pub returns : goal.returns
returns c =
    let l = c.loop-lane in
    lanes_all c.args.was.now c.requires.0 c.args.dart c.args.from l.lane _ _ _ l.invariant.1 (omega arith) l.invariant.2
