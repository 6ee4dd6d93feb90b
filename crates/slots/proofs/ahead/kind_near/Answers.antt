-- `ahead::kind_near` meets its contract: the two words of a kind have its rows. Assumes nothing.
use Rattle.channel.specs.Map.Heads.{head-words}
use Rattle.channel.specs.Map.Packed.{from-seven}
use Rattle.slots.specs.Ahead.{heads-within}
use Rattle.slots.proofs.ahead.kind_near.Goals as goal

pub eight_near-requires : goal.eight_near-requires
eight_near-requires c = let (l, h) = c.requires in let (p, q) = heads-within h (head-words h c.in-0.is) in (l, p, q)

pub eight_near-requires-in-1 : goal.eight_near-requires-in-1
eight_near-requires-in-1 c = let (l, h) = c.requires in let (p, q) = heads-within h (head-words h c.in-1.is) in (l, p, q)

pub eight_near-requires-in-2 : goal.eight_near-requires-in-2
eight_near-requires-in-2 c = let (l, h) = c.requires in let (p, q) = heads-within h (head-words h c.in-2.is) in (l, p, q)

pub eight_near-requires-in-3 : goal.eight_near-requires-in-3
eight_near-requires-in-3 c = let (l, h) = c.requires in let (p, q) = heads-within h (head-words h c.in-3.is) in (l, p, q)

pub eight_near-requires-in-4 : goal.eight_near-requires-in-4
eight_near-requires-in-4 c = let (l, h) = c.requires in let (p, q) = heads-within h (head-words h c.in-4.is) in (l, p, q)

pub eight_near-requires-in-5 : goal.eight_near-requires-in-5
eight_near-requires-in-5 c = let (l, h) = c.requires in let (p, q) = heads-within h (head-words h c.in-5.is) in (l, p, q)

pub eight_near-requires-in-6 : goal.eight_near-requires-in-6
eight_near-requires-in-6 c = let (l, h) = c.requires in let (p, q) = heads-within h (head-words h c.in-6.is) in (l, p, q)

pub eight_near-requires-in_default : goal.eight_near-requires-in_default
eight_near-requires-in_default c = let (l, h) = c.requires in let (p, q) = heads-within h (head-words h (from-seven _ c.requires.1 c.in_default.in_default-own.rest)) in (l, p, q)

pub returns-in-0 : goal.returns-in-0
returns-in-0 c = c.eight_near.ensures _ (head-words c.requires.1 c.in-0.is)

pub returns-in-1 : goal.returns-in-1
returns-in-1 c = c.eight_near-in-1.ensures _ (head-words c.requires.1 c.in-1.is)

pub returns-in-2 : goal.returns-in-2
returns-in-2 c = c.eight_near-in-2.ensures _ (head-words c.requires.1 c.in-2.is)

pub returns-in-3 : goal.returns-in-3
returns-in-3 c = c.eight_near-in-3.ensures _ (head-words c.requires.1 c.in-3.is)

pub returns-in-4 : goal.returns-in-4
returns-in-4 c = c.eight_near-in-4.ensures _ (head-words c.requires.1 c.in-4.is)

pub returns-in-5 : goal.returns-in-5
returns-in-5 c = c.eight_near-in-5.ensures _ (head-words c.requires.1 c.in-5.is)

pub returns-in-6 : goal.returns-in-6
returns-in-6 c = c.eight_near-in-6.ensures _ (head-words c.requires.1 c.in-6.is)

pub returns-in_default : goal.returns-in_default
returns-in_default c = c.eight_near-in_default.ensures _ (head-words c.requires.1 (from-seven _ c.requires.1 c.in_default.in_default-own.rest))
