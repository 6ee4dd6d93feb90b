-- What each turn of `descend` keeps. Assumes nothing.
use lib.ListN.{set}
use Rattle.audit.specs.Loops.Dfs.{unseen, Kept}
use Rattle.audit.specs.Loops.Search.{SameLent, AimedAt}
use Rattle.audit.proofs.loops.Search.descend.Given as goal

abbrev pub invariant-loop-w : goal.invariant-loop-w
invariant-loop-w l = record {
  lent : SameLent l.initial.self l.self;
  aimed : AimedAt l.rec l.self l.v;
  kept : Kept (set l.initial.self.fin.now l.r 1) (set l.self.fin.now l.v 1);
}

abbrev pub decreases-loop-w : goal.decreases-loop-w
decreases-loop-w l = unseen l.self.fin.now
