-- `takeout::take_marked` meets its contract: cell by cell. Assumes nothing.
use Rattle.std.proofs.Common.{arith}
use Rattle.takeout.specs.AllTaken.{taken_none, taken_next, taken-all}
use Rattle.takeout.specs.Marks.{is_marked}
use Rattle.takeout.proofs.take_marked.Goals as goal

pub loop-i-init : goal.loop-i-init
loop-i-init c = taken_none c.args.was.now (is_marked c.args.taken.now) c.requires.0 _

pub loop-i-preserved : goal.loop-i-preserved
loop-i-preserved c =
    taken_next c.args.was.now (is_marked c.args.taken.now) c.requires.0 _ _ _ c.loop-i.i c.loop-i-test.true c.loop-i.invariant c.take_if.ensures

pub returns : goal.returns
returns c =
    taken-all c.args.was.now (is_marked c.args.taken.now) c.requires.0 _ _ c.requires.2 c.requires.1 c.loop-i.i (omega arith)
    c.loop-i.invariant
