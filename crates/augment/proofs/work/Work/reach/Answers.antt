-- `reach` meets its contract. Assumes nothing.
use native.Mathlib.Omega.{arith}
use Rattle.channel.specs.Map.Numbers.{spots-is}
use Rattle.augment.specs.Answers.{yes}
use Rattle.augment.specs.Queue.{first-leaves}
use Rattle.augment.proofs.work.Work.reach.Goals as goal

pub leaves_directly-requires : goal.leaves_directly-requires
leaves_directly-requires c = (c.requires.lent.whole, omega (arith, spots-is, c.requires.fresh.spot))

pub overflow_cast-self : goal.overflow_cast-self
overflow_cast-self c = omega (arith, spots-is, c.requires.fresh.spot)

pub returns-then-leaves_directly-clause-searched : goal.returns-then-leaves_directly-clause-searched
returns-then-leaves_directly-clause-searched c =
    let p = c.requires in
    first-leaves p.lent.room p.fresh (omega arith) (yes c.leaves_directly.ensures c.if-leaves_directly.true)
