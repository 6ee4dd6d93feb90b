-- `table::seat_word` meets its contract: each constant has the entries of its rows. Assumes nothing.
use Rattle.channel.specs.Map.Packed.{seat-word, from-three}
use Rattle.channel.proofs.table.seat_word.Goals as goal

pub returns-in-0 : goal.returns-in-0
returns-in-0 c = seat-word c.requires c.in-0.is

pub returns-in-1 : goal.returns-in-1
returns-in-1 c = seat-word c.requires c.in-1.is

pub returns-in-2 : goal.returns-in-2
returns-in-2 c = seat-word c.requires c.in-2.is

pub returns-in_default : goal.returns-in_default
returns-in_default c = seat-word c.requires (from-three _ c.requires c.in_default.in_default-own.rest)
