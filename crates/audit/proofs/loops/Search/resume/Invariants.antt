-- What each turn of `resume` keeps. Assumes nothing.
use Rattle.audit.specs.Loops.Dfs.{Still}
use Rattle.audit.specs.Loops.Search.{SameLent, Standing}
use Rattle.audit.proofs.loops.Search.resume.Given as goal

abbrev pub invariant-loop-self : goal.invariant-loop-self
invariant-loop-self l = record {
  lent : SameLent l.initial.self l.self;
  state : Standing l.rec l.self;
  still : Still l.initial.self.fin.now l.self.fin.now;
}

abbrev pub decreases-loop-self : goal.decreases-loop-self
decreases-loop-self l = l.self.height
