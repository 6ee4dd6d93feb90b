-- `lines_wire` meets its contract: the rows among the lines passed have no pin with a way out. Assumes nothing.
use mathlib.Core.Path.{◌≡◌, ◌∙◌}
use native.Mathlib.Omega.{arith}
use Rattle.augment.specs.Passing.{passed_lines, passed-still, laid-still, held-still, dead-still}
use Rattle.augment.specs.Work.{same-then}
use Rattle.augment.proofs.work.Work.lines_wire.Goals as goal

pub line_wire-requires : goal.line_wire-requires
line_wire-requires c =
    let v = c.loop-i.invariant in
    let p = c.requires in
    record {
      lent = v.lent;
      held = held-still v.loads p.held;
      dead = dead-still v.loads _ v.passed.dead;
      line = (c.nth_line-l.ensures.number, c.nth_line-l.ensures.pins);
    }

pub returns-in-Some-clause-answered : goal.returns-in-Some-clause-answered
returns-in-Some-clause-answered c = laid-still c.loop-i.invariant.loads c.in-Some.ensures.answered

pub loop-i-preserved : goal.loop-i-preserved
loop-i-preserved c =
    let v = c.loop-i.invariant in
    let (q, p) = rw c.in_default.is at c.line_wire.ensures.answered in
    record {
      same = same-then v.same c.line_wire.ensures.same;
      lent = c.line_wire.ensures.lent;
      loads = q ∙ v.loads;
      passed = passed_lines v.passed c.nth_line-l.ensures (passed-still v.loads p);
    }

pub returns-clause-answered : goal.returns-clause-answered
returns-clause-answered c =
    let l = c.loop-i in
    let e : l.i ≡ c.args.b = omega (arith, c.loop-i-test.false, c.requires.lines.0) in
    (l.invariant.loads, rw e at l.invariant.passed)
