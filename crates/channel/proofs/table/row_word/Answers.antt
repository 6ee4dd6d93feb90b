-- `table::row_word` meets its contract: each constant has the entries of its rows. Assumes nothing.
use Rattle.channel.specs.Map.Packed.{row_word, from-seven}
use Rattle.channel.proofs.table.row_word.Goals as goal

pub returns-in-0 : goal.returns-in-0
returns-in-0 c = row_word c.requires c.in-0.is

pub returns-in-1 : goal.returns-in-1
returns-in-1 c = row_word c.requires c.in-1.is

pub returns-in-2 : goal.returns-in-2
returns-in-2 c = row_word c.requires c.in-2.is

pub returns-in-3 : goal.returns-in-3
returns-in-3 c = row_word c.requires c.in-3.is

pub returns-in-4 : goal.returns-in-4
returns-in-4 c = row_word c.requires c.in-4.is

pub returns-in-5 : goal.returns-in-5
returns-in-5 c = row_word c.requires c.in-5.is

pub returns-in-6 : goal.returns-in-6
returns-in-6 c = row_word c.requires c.in-6.is

pub returns-in_default : goal.returns-in_default
returns-in_default c = row_word c.requires (from-seven _ c.requires c.in_default.in_default-own.rest)
