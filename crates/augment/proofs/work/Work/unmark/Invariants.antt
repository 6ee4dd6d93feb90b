-- What each turn of `unmark` keeps. Assumes nothing.
use Rattle.augment.specs.Marks.{Unmarked}
use Rattle.augment.specs.Work.{SameLent, MarksOnly}
use Rattle.augment.proofs.work.Work.unmark.Given as goal

abbrev pub invariant-loop-i : goal.invariant-loop-i
invariant-loop-i l = record {
  same : SameLent l.initial.self l.self;
  rest : MarksOnly l.initial.self l.self;
  gone : Unmarked l.initial.self.queue.now l.i l.initial.self.marks.now l.self.marks.now;
}
