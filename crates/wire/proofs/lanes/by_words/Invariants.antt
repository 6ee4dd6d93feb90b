-- What each turn of `lanes::by_words` keeps: the lanes of the slots before k are read. Assumes nothing.
use Rattle.std.specs.Prelude.{◌*◌}
use Rattle.wire.specs.Five.{Read}
use Rattle.wire.proofs.lanes.by_words.Given as goal

abbrev pub invariant-loop-k : goal.invariant-loop-k
invariant-loop-k l = Read l.rec (l.u * 8) l.around.arrive l.around.depart l.k
