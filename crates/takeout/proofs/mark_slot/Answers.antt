-- `takeout::mark_slot` meets its contract: no wire comes where there is no load, and those that come have the lanes of the dart of the step back.
use native.Mathlib.Omega.{arith}
use Rattle.takeout.specs.Marks.{slot-none, slot-linked, back-dart, slot-lanes}
use Rattle.takeout.proofs.mark_slot.Goals as goal

pub returns-then-wires_in-eq0 : goal.returns-then-wires_in-eq0
returns-then-wires_in-eq0 c =
    slot-none c.args.was.now c.requires.0 c.args.dart _ _ c.wires_in.ensures (omega (arith, c.if-wires_in-eq0.true))

pub mark_lanes-requires : goal.mark_lanes-requires
mark_lanes-requires c =
    let t = slot-linked c.args.was.now c.requires.0 c.args.dart _ c.wires_in.ensures (omega (arith, c.if-wires_in-eq0.false)) in
    (c.requires.0, c.requires.1, c.step_back.ensures.1, (back-dart c.args.was.now c.requires.0 c.args.dart _ t c.step_back.ensures.0).0)

pub returns : goal.returns
returns c =
    let t =
    slot-linked c.args.was.now c.requires.0 c.args.dart _ c.wires_in.ensures
    (omega (arith, c.if-wires_in-eq0.false)) in
    slot-lanes c.args.was.now c.requires.0 c.args.dart _ _ _ t c.step_back.ensures.0 c.mark_lanes.ensures
