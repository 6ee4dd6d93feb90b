-- What each turn of `forget` keeps. Assumes nothing.
use Rattle.audit.specs.Loops.Dfs.{Forgotten}
use Rattle.audit.specs.Loops.Search.{SameLent, ForgetsOnly}
use Rattle.audit.proofs.loops.Search.forget.Given as goal

abbrev pub invariant-loop-i : goal.invariant-loop-i
invariant-loop-i l = record {
  lent : SameLent l.initial.self l.self;
  rest : ForgetsOnly l.initial.self l.self;
  gone : Forgotten l.initial.self.st.now l.i l.initial.self.fin.now l.self.fin.now;
}
