-- `slots::by_kind` meets its contract: the words of the table are those of the spot's kind. Assumes nothing.
use native.Mathlib.Omega.{arith}
use Rattle.channel.specs.Map.Packed.{slot-words}
use Rattle.slots.specs.Slots.{from-five}
use Rattle.slots.proofs.slots.by_kind.Goals as goal

pub by_words-requires : goal.by_words-requires
by_words-requires c =
    let (z, l, m, g, h) = c.requires in
    (z, l, m, g, h, slot-words (omega arith) c.in-2.is tt)

pub by_words-requires-in-3 : goal.by_words-requires-in-3
by_words-requires-in-3 c =
    let (z, l, m, g, h) = c.requires in
    (z, l, m, g, h, slot-words (omega arith) c.in-3.is tt)

pub by_words-requires-in-4 : goal.by_words-requires-in-4
by_words-requires-in-4 c =
    let (z, l, m, g, h) = c.requires in
    (z, l, m, g, h, slot-words (omega arith) c.in-4.is tt)

pub by_words-requires-in_default : goal.by_words-requires-in_default
by_words-requires-in_default c =
    let (z, l, m, g, h) = c.requires in
    (z, l, m, g, h, slot-words (omega arith) (from-five _ g h c.in_default.in_default-own.rest) tt)
