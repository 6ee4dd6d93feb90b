-- `forget` meets its contract: the spots passed are not seen any more. Assumes nothing.
use native.Mathlib.Omega.{arith}
use lib.ListN.{length-set}
use Rattle.audit.specs.Loops.Marks.{forgot-more}
use Rattle.audit.proofs.loops.Search.forget.Goals as goal

pub loop-i-preserved : goal.loop-i-preserved
loop-i-preserved c =
    let v = c.loop-i.invariant in
    let l = c.requires.on _ c.loop-i-test.true in
    record {
      lent = record { marks = v.lent.marks; stack = v.lent.stack; slots = v.lent.slots };
      rest = record { marks = simp length-set v.rest.marks; stack = v.rest.stack; slots = v.rest.slots; height = v.rest.height; done = v.rest.done };
      gone = rw v.rest.stack (forgot-more l (omega (arith, l, c.requires.marks, v.rest.marks)) v.gone);
    }
