-- `lanes::lanes_round` meets its contract: by the words of the table where the cell has all its neighbours. Assumes nothing.
use native.Mathlib.Omega.{arith}
use Rattle.channel.specs.Map.Bools.{between}
use Rattle.channel.specs.Map.Packed.{slot-words}
use Rattle.wire.proofs.lanes.lanes_round.Goals as goal

pub by_words-requires : goal.by_words-requires
by_words-requires c =
    let (l, m) = between _ 41 1600 c.if-u.false in
    (c.requires.0, l, m, slot-words (omega arith) c.in-2.is tt)

pub by_words-requires-in-3 : goal.by_words-requires-in-3
by_words-requires-in-3 c =
    let (l, m) = between _ 41 1600 c.if-u.false in
    (c.requires.0, l, m, slot-words (omega arith) c.in-3.is tt)

pub by_words-requires-in-4 : goal.by_words-requires-in-4
by_words-requires-in-4 c =
    let (l, m) = between _ 41 1600 c.if-u.false in
    (c.requires.0, l, m, slot-words (omega arith) c.in-4.is tt)

pub by_words-requires-in-5 : goal.by_words-requires-in-5
by_words-requires-in-5 c =
    let (l, m) = between _ 41 1600 c.if-u.false in
    (c.requires.0, l, m, slot-words (omega arith) c.in-5.is tt)

pub by_words-requires-in-7 : goal.by_words-requires-in-7
by_words-requires-in-7 c =
    let (l, m) = between _ 41 1600 c.if-u.false in
    (c.requires.0, l, m, slot-words (omega arith) c.in-7.is tt)
