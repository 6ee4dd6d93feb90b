-- `line_wire` meets its contract: the pins passed have no way out. Assumes nothing.
use mathlib.Core.Path.{◌≡◌, ap, ◌∙◌}
use native.Mathlib.Omega.{arith}
use Rattle.channel.specs.Map.Numbers.{is-spot}
use Rattle.augment.specs.Pins.{spot_on}
use Rattle.augment.specs.Passing.{passed-line, tested-shut, held-still, dead-still, tested-still, laid_from}
use Rattle.augment.specs.Work.{same-then}
use Rattle.augment.proofs.work.Work.line_wire.Goals as goal

pub wire_from-requires : goal.wire_from-requires
wire_from-requires c =
    let v = c.loop-i.invariant in
    record { lent = v.lent; held = held-still v.loads c.requires.held; dead = dead-still v.loads _ v.passed.dead; spot = is-spot c.spot_on-u.ensures.1 }

pub returns-then-wire_from-clause-answered : goal.returns-then-wire_from-clause-answered
returns-then-wire_from-clause-answered c =
    laid_from (tested-still c.loop-i.invariant.loads c.wire_from.ensures.tested) c.if-wire_from.true (is-spot c.spot_on-u.ensures.1)

pub loop-i-preserved : goal.loop-i-preserved
loop-i-preserved c =
    let v = c.loop-i.invariant in
    let (q, p) = tested-shut (tested-still v.loads c.wire_from.ensures.tested) c.if-wire_from.false in
    record {
      same = same-then v.same c.wire_from.ensures.same;
      lent = c.wire_from.ensures.lent;
      loads = q;
      passed = passed-line v.passed (c.spot_on-u.ensures.0 ∙ ap (spot_on _) c.inwards.ensures.0) p;
    }

pub returns-clause-answered : goal.returns-clause-answered
returns-clause-answered c =
    let l = c.loop-i in
    let e : l.i ≡ c.args.l.pins = omega (arith, c.loop-i-test.false) in
    (l.invariant.loads, rw e at l.invariant.passed)
