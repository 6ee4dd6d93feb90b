-- `resume` meets its contract: each turn that goes on leaves less on the stack, and no spot is seen that was not. Assumes nothing.
use mathlib.Core.Path.{◌∙◌}
use native.Mathlib.Omega.{arith}
use Rattle.audit.specs.Loops.Fresh.{resumed-then}
use Rattle.audit.specs.Loops.Stack.{dfs-empty}
use Rattle.audit.specs.Loops.Turns.{still-then}
use Rattle.audit.proofs.loops.Search.resume.Goals as goal

pub loop-self-smaller : goal.loop-self-smaller
loop-self-smaller c = let t = rw c.in_default.is at c.advance.ensures.turned in t.2

pub loop-self-preserved : goal.loop-self-preserved
loop-self-preserved c =
    let v = c.loop-self.invariant in
    let e = c.advance.ensures.lent in
    let t = rw c.in_default.is at c.advance.ensures.turned in
    record {
      lent = record { marks = e.marks ∙ v.lent.marks; stack = e.stack ∙ v.lent.stack; slots = e.slots ∙ v.lent.slots };
      state = t.0;
      still = still-then v.still t.1;
    }

pub returns-in-Some-clause-resumed : goal.returns-in-Some-clause-resumed
returns-in-Some-clause-resumed c =
    resumed-then c.args.rec.now c.args.self.now c.loop-self.self c.advance.new.self c.in-Some.met c.loop-self.invariant.still (c.in-Some.ensures.turned)

pub returns-clause-resumed : goal.returns-clause-resumed
returns-clause-resumed c =
    let l = c.loop-self.invariant in
    (record { empty = omega (arith, c.loop-self-test.false); state = dfs-empty l.state (omega (arith, c.loop-self-test.false)) }, l.still.kept)
