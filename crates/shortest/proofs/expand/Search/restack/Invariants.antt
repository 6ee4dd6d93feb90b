-- What each turn of `restack` keeps. Assumes nothing.
use Prim.Native.Nat.{ℕ, ◌<◌}
use mathlib.Core.Path.{◌≡◌}
use lib.ListN.{length, get_or}
use Rattle.shortest.specs.Search.{SameLent}
use Rattle.shortest.proofs.expand.Search.restack.Given as goal

abbrev pub invariant-loop-j : goal.invariant-loop-j
invariant-loop-j l = record {
  lent : SameLent l.initial.self l.self;
  marks : l.self.marks.now ≡ l.initial.self.marks.now;
  queue : l.self.queue.now ≡ l.initial.self.queue.now;
  parent : l.self.parent.now ≡ l.initial.self.parent.now;
  slot : l.self.slot.now ≡ l.initial.self.slot.now;
  rim : l.self.rim.now ≡ l.initial.self.rim.now;
  growth : l.self.growth ≡ l.initial.self.growth;
  size : length l.self.stack.now ≡ length l.initial.self.stack.now;
  again : (x : ℕ) → x < l.j → get_or l.self.stack.now x 0 ≡ get_or l.initial.self.rim.now x 0;
}
