-- What each turn of `enlist` keeps. Assumes nothing.
use Rattle.augment.specs.Work.{SameLent, ListsOnly}
use Rattle.augment.proofs.work.Work.enlist.Given as goal

abbrev pub invariant-loop-i : goal.invariant-loop-i
invariant-loop-i l = record { lent : SameLent l.initial.self l.self; rest : ListsOnly l.initial.self l.self }
