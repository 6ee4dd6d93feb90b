-- `descend` meets its contract: each spot that goes on the stack leaves one less that is not seen. Assumes nothing.
use native.Mathlib.Omega.{arith}
use Rattle.audit.specs.Loops.Turns.{entered-less}
use Rattle.audit.proofs.loops.Search.descend.Goals as goal

pub loop-w-smaller : goal.loop-w-smaller
loop-w-smaller c =
    let e = rw c.in-Some-New.field-0-is at c.in-Some-New.ensures.resumed in
    omega (arith, e.1.count, entered-less c.loop-w.invariant.aimed c.enter.ensures.entered.marks)
