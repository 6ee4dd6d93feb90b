-- What each turn of `trace_run` keeps. Assumes nothing.
use Prim.Native.Nat.{ℕ, ◌*◌, ◌≤◌, ◌<◌}
use Rattle.audit.specs.Loops.Dfs.{Kept, Begun}
use Rattle.audit.specs.Loops.Search.{SameLent, Idle}
use Rattle.audit.proofs.loops.Search.trace_run.Given as goal

abbrev pub invariant-loop-i : goal.invariant-loop-i
invariant-loop-i l = record {
  lent : SameLent l.initial.self l.self;
  idle : Idle l.rec l.self;
  kept : Kept l.initial.self.fin.now l.self.fin.now;
  begun : (j : ℕ) → 16 * l.k ≤ j → j < l.i → Begun l.old l.rec l.self.fin.now j;
}
