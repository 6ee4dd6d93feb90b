-- What each turn of `trace_all` keeps. Assumes nothing.
use Prim.Native.Nat.{ℕ, ◌*◌, ◌≤◌, ◌<◌}
use Rattle.audit.specs.Loops.Dfs.{Kept, Begun}
use Rattle.audit.specs.Loops.Search.{SameLent, Idle}
use Rattle.audit.proofs.loops.Search.trace_all.Given as goal

abbrev pub invariant-loop-k : goal.invariant-loop-k
invariant-loop-k l = record {
  lent : SameLent l.initial.self l.self;
  idle : Idle l.rec l.self;
  kept : Kept l.initial.self.fin.now l.self.fin.now;
  begun : (i : ℕ) → 16 * l.k ≤ i → i < 24000 → Begun l.old l.rec l.self.fin.now i;
}
